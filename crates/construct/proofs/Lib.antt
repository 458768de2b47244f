pub mod Hashing
pub mod Seeds
