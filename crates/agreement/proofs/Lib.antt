pub mod Indices
pub mod Same
pub mod Laws
pub mod Progress
pub mod Visit
pub mod Walk
