-- Pages with paragraphs and headings among calls, expanded part by part.
pub mod LeftBraces
pub mod Seams
pub mod CalmBraces
pub mod KeptBraces
pub mod LessBraces
pub mod Depths
pub mod PartByPart
pub mod CalledAgain
pub mod Retyped
pub mod NoCallsCalled
mod Cases
