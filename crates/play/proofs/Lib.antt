pub mod Calls
pub mod Fronts
pub mod Steps
pub mod Going
pub mod Wholes
