pub mod Run
pub mod Taken
pub mod State
pub mod InOrder
pub mod Builds
pub mod Internal
