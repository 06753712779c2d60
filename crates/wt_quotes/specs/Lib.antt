pub mod Forest
pub mod Runs
pub mod StyleLaws
pub mod Styles
pub mod ToggleLaws
pub mod Toggles
pub mod Turns
