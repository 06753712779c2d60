pub mod KeptBytes
pub mod Uses
pub mod Changed
pub mod Choices
pub mod Sent
pub mod Untouched
