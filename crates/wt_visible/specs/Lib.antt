pub mod SameNodes
pub mod Children
pub mod Restored
pub mod Views
pub mod KeptMarks
pub mod Tally
