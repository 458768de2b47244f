pub mod Parts
pub mod Hexadecimal
pub mod Decimal
