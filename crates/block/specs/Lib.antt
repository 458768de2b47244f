pub mod Verify
pub mod EntryHeader
pub mod Record
pub mod Walk
