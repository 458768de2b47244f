pub mod Hashing
pub mod Slots
pub mod Examples
