pub mod Calls
pub mod Known
pub mod Made
pub mod Sound
pub mod Walks
