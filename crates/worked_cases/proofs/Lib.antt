pub mod Following
pub mod PlainMatch
