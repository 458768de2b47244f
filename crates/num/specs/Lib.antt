pub mod Choice
pub mod Number
pub mod Order
pub mod Wrapping
pub mod Internal
