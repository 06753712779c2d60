-- Paragraphs and headings anywhere in a page, in cells and captions of tables, too.
mod AnyCases
mod CalledCases
pub mod ClassCases
pub mod AnyPages
pub mod BodyPages
pub mod OwnParagraphs
pub mod PlacedBlocks
pub mod PlacedSpots
pub mod PlacedLines
pub mod PlacedAmong
pub mod PlacedCalling
mod PlacedCases
pub mod TakenParagraphs
mod Cases
pub mod CellRows
pub mod CellSpots
pub mod Cells
pub mod CellsUnmarked
pub mod HolderKinds
pub mod Cuts
pub mod TwoTexts
pub mod FramesBorders
pub mod FramesPlain
pub mod HeadingCells
pub mod OwnEdits
pub mod ManyNodes
pub mod ManyPaths
pub mod Nodes
pub mod OwnTexts
pub mod SentAsIs
mod SentCases
pub mod PageCases
pub mod PageSlots
pub mod Equal
pub mod PlaceGaps
pub mod PlacePaths
pub mod PlaceTrees
pub mod ItemFrames
pub mod CalledFrames
pub mod CallingFrames
mod CallingCases
pub mod SpotFrames
pub mod ContentItems
pub mod SignLeads
pub mod SignRows
mod EndCases
pub mod SpotRows
pub mod SpotSlots
pub mod SpotTrees
pub mod SpotsRead
pub mod Takes
pub mod PartKinds
