pub mod Keys
pub mod Agrees
pub mod Internal
