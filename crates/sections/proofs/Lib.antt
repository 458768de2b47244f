pub mod Tails
pub mod Tables
pub mod Section
