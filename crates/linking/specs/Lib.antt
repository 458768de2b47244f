pub mod Linkers
