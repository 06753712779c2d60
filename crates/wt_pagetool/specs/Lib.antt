pub mod Found
pub mod Promises
pub mod Rewrites
pub mod Selser
