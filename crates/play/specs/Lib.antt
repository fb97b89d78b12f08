pub mod Turns
pub mod Promise
