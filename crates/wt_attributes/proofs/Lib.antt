pub mod Fronts
pub mod Inverted
pub mod Orders
pub mod Readings
pub mod Rows
pub mod Runs
pub mod Texts
pub mod Written
