pub mod Texts
pub mod Prose
pub mod Between
pub mod Paragraphs
pub mod Headings
pub mod Blocks
pub mod Cuts
pub mod PlainGroups
