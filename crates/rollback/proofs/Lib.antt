pub mod Puts
pub mod Steps
pub mod Sent
pub mod Fresh
pub mod Search
