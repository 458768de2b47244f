pub mod Fields
pub mod Versions
