pub mod Open
pub mod Internal
