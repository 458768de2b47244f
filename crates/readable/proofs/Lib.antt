pub mod Held
pub mod Rising
pub mod ReadsAs
