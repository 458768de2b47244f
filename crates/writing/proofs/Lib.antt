pub mod Questions
pub mod Narrow
pub mod Building
