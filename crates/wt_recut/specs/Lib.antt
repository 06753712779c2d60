pub mod Cutting
pub mod Recut
pub mod Recutting
