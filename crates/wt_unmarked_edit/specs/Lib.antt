pub mod Counts
pub mod Found
pub mod Tried
