pub mod Classes
pub mod Internal
