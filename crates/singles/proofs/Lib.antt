pub mod Free
pub mod Loop
