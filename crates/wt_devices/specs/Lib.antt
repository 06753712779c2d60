pub mod Device
pub mod Shelf
