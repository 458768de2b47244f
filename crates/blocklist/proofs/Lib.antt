pub mod Filling
pub mod Seeking
pub mod Pairs
pub mod Calls
