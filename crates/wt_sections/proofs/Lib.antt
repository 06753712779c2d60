mod Cases
pub mod Deep
pub mod Gathers
pub mod Kept
pub mod Opened
pub mod Tiles
