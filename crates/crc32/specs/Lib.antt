pub mod V42
pub mod Table
pub mod Halves
