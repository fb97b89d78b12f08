pub mod Frames
pub mod Opening
pub mod Seats
