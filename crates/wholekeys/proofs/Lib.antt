pub mod Records
pub mod Whole
