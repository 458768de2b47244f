pub mod Value
pub mod Lookup
