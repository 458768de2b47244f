pub mod Keys
pub mod Built
