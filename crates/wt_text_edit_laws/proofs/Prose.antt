-- Typed paragraphs with empty lines between them.
pub mod Uncommented
pub mod InFront
pub mod ProseReading
pub mod ProseLines
pub mod ProseBlocks
pub mod ProseTrees
pub mod ProseTexts
pub mod BlockFacts
pub mod ProseFacts
pub mod ProseTakes
pub mod ProseUnmarked
pub mod ChangesListed
pub mod ChangesSteps
pub mod ChangesMake
pub mod ChangesText
pub mod ChangesTaken
pub mod ChangesUnmarked
mod Cases
mod ChangeCases
