-- Blocks with calls can be read by themselves.
pub mod CallPlaces
pub mod OfCall
pub mod InSlice
pub mod Opened
pub mod SourcesAt
pub mod PartsIn
pub mod Pieces
pub mod Blocks
pub mod GroupsAlone
pub mod Contents
pub mod Pieced
pub mod TextAndCalls
pub mod CallsApart
pub mod Uncalled
pub mod Cases
