pub mod TwoLinkers
