pub mod Checks
pub mod Codes
pub mod Presses
pub mod Sends
pub mod Takes
pub mod Whole
pub mod Replay
pub mod Same
