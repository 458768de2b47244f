pub mod ReadBack
pub mod Places
pub mod Internal
