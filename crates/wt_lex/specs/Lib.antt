pub mod GoneNames
pub mod Places
pub mod Reading
pub mod SignWidths
pub mod TagView
pub mod WholeWords
pub mod Words
