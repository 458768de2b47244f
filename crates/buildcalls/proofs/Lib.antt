pub mod Refusals
pub mod Answers
pub mod Adds
pub mod Writes
pub mod Prefix
pub mod Opens
pub mod Written
