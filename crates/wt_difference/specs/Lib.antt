pub mod Insides
pub mod Tokens
pub mod Difference
pub mod Remarked
pub mod Seen
pub mod Unedited
pub mod Views
