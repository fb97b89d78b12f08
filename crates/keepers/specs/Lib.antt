pub mod Keeping
pub mod Replaying
pub mod Rings
