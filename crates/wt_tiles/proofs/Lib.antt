pub mod Balances
pub mod Bytes
mod Cases
pub mod Counting
pub mod Cuts
pub mod Fits
pub mod Joining
pub mod LinkFits
pub mod Pairs
pub mod Pieces
pub mod Readings
pub mod Spelling
pub mod Steps
pub mod TagFits
pub mod TagInsides
pub mod Taking
pub mod UrlFits
pub mod Words
