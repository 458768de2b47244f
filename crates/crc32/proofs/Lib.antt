pub mod Examples
pub mod Polynomial
pub mod Register
pub mod Division
pub mod Table
pub mod Chunks
pub mod Walk
pub mod Halves
