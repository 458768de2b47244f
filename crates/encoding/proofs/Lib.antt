pub mod Widths
pub mod Lengths
pub mod Examples
