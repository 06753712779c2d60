-- A page cut at its blocks, by its items.
pub mod SignBytes
pub mod ItemCuts
pub mod SettledEnds
pub mod Unmarked
pub mod Seen
pub mod HeadingCuts
pub mod Utf8Cuts
pub mod Uncrossed
pub mod LedCuts
pub mod RowLines
pub mod BodyBlocks
pub mod TextLines
pub mod BodyChildren
pub mod BodyParagraphs
