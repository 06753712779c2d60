pub mod Attributes
pub mod Characters
pub mod Classes
pub mod Spelled
pub mod Views
