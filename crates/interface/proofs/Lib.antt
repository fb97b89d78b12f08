pub mod Places
pub mod Reach
pub mod Replays
pub mod Slots
