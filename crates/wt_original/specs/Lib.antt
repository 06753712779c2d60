pub mod Gathered
pub mod Kept
pub mod Numbers
pub mod Page
pub mod PageViews
