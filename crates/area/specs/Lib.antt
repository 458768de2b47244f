pub mod Area
pub mod Walk
