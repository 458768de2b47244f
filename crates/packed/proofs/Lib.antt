pub mod Laws
pub mod Lengths
pub mod Written
pub mod Bytes
