pub mod Construct
pub mod Scratch
pub mod Internal
pub mod Promises
