pub mod Version
pub mod Lent
