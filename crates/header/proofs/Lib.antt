pub mod Answers
pub mod Bounds
pub mod Numbers
mod OneOf
pub mod Headers
pub mod Questions
