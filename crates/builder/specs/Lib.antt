pub mod Offer
pub mod Record
pub mod Add
pub mod Lent
pub mod Internal
