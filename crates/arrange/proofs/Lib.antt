pub mod Falling
pub mod Arranging
