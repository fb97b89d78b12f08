pub mod Setup
pub mod Memory
pub mod Outcomes
pub mod Standing
pub mod Laws
pub mod Plays
pub mod Matches
