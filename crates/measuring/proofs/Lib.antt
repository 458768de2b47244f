pub mod Totals
pub mod Groups
pub mod Reading
pub mod Measured
