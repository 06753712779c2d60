pub mod Steps
pub mod Complete
pub mod Chars
pub mod Reading
pub mod Partial
pub mod Whole
pub mod Places
mod Cases
pub mod Telling
pub mod Spaces
