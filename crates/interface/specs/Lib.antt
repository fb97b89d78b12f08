pub mod Answers
pub mod Digest
pub mod Games
pub mod Keepers
pub mod Limits
