mod Cases
pub mod InOrder
pub mod InPage
pub mod LineLaws
pub mod LinesBack
pub mod Noting
pub mod Orders
pub mod Shaped
pub mod TextTurns
pub mod Walking
