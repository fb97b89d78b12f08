pub mod Fields
pub mod Layout
pub mod Reading
pub mod Writing
pub mod Meanings
pub mod Laws
pub mod Padding
