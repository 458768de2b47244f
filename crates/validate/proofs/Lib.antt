pub mod Entries
pub mod Record
pub mod BlockWalk
