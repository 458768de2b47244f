pub mod Records
pub mod Adds
pub mod Writes
