pub mod Masks
