pub mod Candidates
pub mod Turn
pub mod Search
pub mod Filling
pub mod Placing
