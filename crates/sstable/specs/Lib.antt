pub mod Kind
pub mod Limits
pub mod Trailer
