pub mod Block
pub mod Entries
pub mod Covers
pub mod Pairs
pub mod Stored
pub mod Opening
pub mod PackedOpening
