pub mod Rules
pub mod Match
pub mod States
pub mod Turns
pub mod Laws
