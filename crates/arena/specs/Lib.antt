pub mod Key
pub mod Internal
