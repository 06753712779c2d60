-- Pages of typed paragraphs and headings among any other blocks.
pub mod BlockReading
pub mod SignReading
pub mod SignedParts
pub mod SignBraces
pub mod BlockLines
pub mod BlockLeaves
pub mod Untangled
pub mod Contents
pub mod OwnContents
pub mod BlocksRead
pub mod BlockMeaning
pub mod BlockTrees
pub mod BlocksAgain
pub mod TypedBraces
pub mod TypedAgain
pub mod OtherBlocks
pub mod PageKinds
pub mod KeptBlocks
pub mod Unframed
pub mod PageItems
pub mod BlocksUngrouped
pub mod TypedFacts
pub mod BlockSpotFacts
pub mod BlocksTake
pub mod BlocksUnmarked
pub mod OwnNodes
mod Cases
mod PageCases
