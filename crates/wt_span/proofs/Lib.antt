pub mod Lists
pub mod Places
mod Rows
pub mod RunLaws
pub mod Spans
