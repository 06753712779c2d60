-- Texts beside calls: what such a content is in the page, and what its calls give.
pub mod HalfSigns
pub mod Schemes
pub mod GivenTiles
pub mod GivenParts
pub mod GivenMeets
pub mod GivenNodes
pub mod RoundNodes
mod StyleCases
pub mod Gifts
pub mod CalledTiles
pub mod CalledLines
pub mod CalledParts
pub mod CalledParagraphs
pub mod CalledBlocks
pub mod CalledHeadings
pub mod CalledShown
pub mod Folders
pub mod Faults
pub mod Cases
pub mod GivenCases
pub mod Meet
