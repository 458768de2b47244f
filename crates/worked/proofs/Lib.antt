pub mod Blocks
pub mod Headers
pub mod Keys
pub mod Openings
pub mod Lookups
