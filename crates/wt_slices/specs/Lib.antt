pub mod BodySlices
pub mod Borders
pub mod Changes
pub mod ListSlices
pub mod Steps
pub mod Views
