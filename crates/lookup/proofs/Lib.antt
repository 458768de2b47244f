pub mod Tests
pub mod Places
pub mod KeyRecords
