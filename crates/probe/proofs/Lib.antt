pub mod Probing
pub mod Constructed
