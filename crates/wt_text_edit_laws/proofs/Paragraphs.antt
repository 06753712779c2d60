-- A typed paragraph among any other blocks.
pub mod Apart
pub mod Texts
pub mod Joining
pub mod Marks
pub mod Standing
pub mod Paragraphs
pub mod PartTrees
pub mod ClearLines
pub mod LineBlocks
pub mod SeenLines
mod Cases
