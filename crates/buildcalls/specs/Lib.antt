pub mod BuildCalls
