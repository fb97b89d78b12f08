pub mod Doing
pub mod Logs
pub mod Opens
