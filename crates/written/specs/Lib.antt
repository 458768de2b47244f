pub mod Joined
pub mod Arena
pub mod Section
pub mod Opens
pub mod Internal
