pub mod Stores
pub mod Parts
