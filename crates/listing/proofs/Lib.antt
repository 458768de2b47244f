pub mod Blocks
pub mod Steps
pub mod Numbers
pub mod Texts
pub mod Examples
pub mod Runs
