pub mod Sound
pub mod Header
pub mod Step
pub mod Walk
