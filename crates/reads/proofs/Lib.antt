pub mod Judged
pub mod Touching
pub mod Given
