pub mod Same
pub mod PackedAnswers
pub mod Records
pub mod Packed
