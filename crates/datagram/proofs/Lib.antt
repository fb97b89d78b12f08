pub mod Digits
pub mod Pairs
pub mod Sums
pub mod Buffers
pub mod Readings
pub mod Parses
pub mod Writings
pub mod Padded
