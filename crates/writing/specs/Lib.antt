pub mod Wrote
pub mod Internal
