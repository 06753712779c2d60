pub mod CellLines
pub mod CellReads
pub mod CellSteps
pub mod Cuts
pub mod Cutting
pub mod Ends
pub mod Numbers
pub mod Opens
pub mod PartLines
mod Rows
pub mod Scans
pub mod Singles
pub mod Steps
