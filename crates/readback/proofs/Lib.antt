pub mod Known
pub mod Reading
pub mod Steps
pub mod Examples
