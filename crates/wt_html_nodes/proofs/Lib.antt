pub mod Values
pub mod OwnPairs
pub mod Joining
pub mod Labels
pub mod FirstLetters
