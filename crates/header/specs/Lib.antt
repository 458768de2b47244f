pub mod Header
pub mod Facts
pub mod Internal
