mod Cases
mod LineCases
mod HeadingCases
pub mod Commented
pub mod Uncommented
pub mod Unjoined
mod UnjoinedCases
pub mod Ends
pub mod InLine
mod LinkCases
pub mod Shown
pub mod Tiles
pub mod Within
pub mod LedItems
