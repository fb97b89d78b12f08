pub mod Counters
pub mod Datagrams
pub mod DuelCases
pub mod PlainMatch
pub mod Scripts
pub mod SpeedCases
