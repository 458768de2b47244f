pub mod Pilots
pub mod Pairs
pub mod Accepted
