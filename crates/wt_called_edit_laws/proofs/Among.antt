-- Pages with calls whose blocks are told by the lines of the expanded page.
pub mod Crossed
pub mod LeftCalm
pub mod PartsApart
pub mod OpenRuns
pub mod Flattened
pub mod Members
pub mod OwnSeams
pub mod TextEnds
pub mod OwnItems
pub mod TextsBeside
pub mod BlockAt
pub mod LinedParts
pub mod FirstItems
pub mod CallingLines
pub mod CallingCases
pub mod CalmLines
pub mod ToldAmong
pub mod ToldCases
pub mod NoCallRuns
pub mod RunBraces
mod BehindCases
