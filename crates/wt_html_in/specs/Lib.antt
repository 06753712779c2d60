pub mod Sources
pub mod Roles
pub mod Gathering
pub mod Fits
pub mod Answers
pub mod Frame
pub mod Feeding
