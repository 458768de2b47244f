pub mod RecordNumbers
pub mod BuilderNumbers
