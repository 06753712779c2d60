pub mod GroupFaults
pub mod Edits
pub mod Leaves
pub mod Borders
