pub mod ReadsAs
