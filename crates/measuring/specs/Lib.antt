pub mod Measured
pub mod Internal
