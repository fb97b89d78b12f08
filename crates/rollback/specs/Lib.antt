pub mod Inputs
pub mod Meanings
pub mod Replay
