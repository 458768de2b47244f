pub mod Indexed
pub mod Plain
pub mod Moved
pub mod Packed
pub mod Reading
pub mod Versions
pub mod Core
pub mod Accepted
