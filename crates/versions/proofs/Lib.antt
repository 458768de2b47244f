pub mod Agreeing
pub mod VersionReading
pub mod Stored
pub mod Visiting
