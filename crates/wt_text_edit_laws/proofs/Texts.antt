-- A typed text, and a page that is one paragraph.
pub mod PlainWords
pub mod PlainPages
pub mod PlainBytes
pub mod PlainSpelling
pub mod StillLines
pub mod PlainRows
pub mod PlainMeaning
pub mod LoneTrees
pub mod TypedText
pub mod TypedLeaves
pub mod TypedItems
pub mod TypedShown
pub mod SpelledUtf8
pub mod SpelledLength
pub mod TypedAgain
pub mod TypedNodes
pub mod TypedTrees
pub mod TypedPages
pub mod TakesAnyText
pub mod TakesText
mod Cases
