pub mod Records
pub mod Keys
pub mod Arena
