pub mod Store
pub mod Looks
