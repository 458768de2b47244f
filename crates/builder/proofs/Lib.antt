pub mod Standing
pub mod Asked
pub mod Examples
