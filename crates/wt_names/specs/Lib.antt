pub mod Good
pub mod Namespace
pub mod Reading
pub mod Written
pub mod Tidy
