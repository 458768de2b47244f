pub mod Listing
pub mod Internal
pub mod Run
