pub mod Walk
pub mod Internal
pub mod Lent
