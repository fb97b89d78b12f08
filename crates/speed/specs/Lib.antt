pub mod Moves
pub mod Places
pub mod Rules
pub mod Lawful
pub mod Opening
pub mod Trails
pub mod Laws
pub mod Marks
