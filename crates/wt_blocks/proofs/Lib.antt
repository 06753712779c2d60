pub mod Fronts
pub mod Nests
pub mod Begun
pub mod SameRows
pub mod Measures
pub mod Cuts
pub mod HeadingLaws
pub mod Rows
