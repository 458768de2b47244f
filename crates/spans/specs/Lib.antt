pub mod Span
pub mod Internal
