pub mod Asked
pub mod Edits
