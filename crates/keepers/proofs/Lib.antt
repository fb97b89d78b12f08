pub mod Around
pub mod Kept
pub mod Redone
pub mod Undone
