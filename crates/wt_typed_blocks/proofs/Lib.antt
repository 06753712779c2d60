pub mod SentGroups
pub mod SentFrames
pub mod EditedKept
pub mod EditedShows
pub mod EditedSlices
pub mod EditedSpliced
pub mod EditedAnswer
pub mod EditedSections
pub mod EditedUnmarked
pub mod AsEdits
pub mod SentSections
pub mod SentShows
pub mod SentUnmarked
pub mod ComingPasses
pub mod ComingSteps
pub mod ComingAnswer
pub mod ComingShows
mod Cases
pub mod ShownWords
pub mod Forms
pub mod TextReads
pub mod Signs
pub mod Lines
pub mod TextKinds
mod NeighbourCases
pub mod OneByOne
pub mod TextEditsStand
pub mod ChildrenStand
pub mod KeptPlaces
pub mod GroupsTold
mod EditsCases
