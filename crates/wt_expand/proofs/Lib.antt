mod Cases
mod ChoiceCases
mod ExpansionCases
mod FrontCases
pub mod FrontLaws
pub mod MadePieces
pub mod PageLaws
pub mod PiecePlaces
pub mod Given
pub mod Joins
pub mod NoCalls
pub mod Agreements
pub mod Absent
pub mod Names
pub mod ShownPieces
pub mod TextLaws
pub mod Turns
pub mod ExpandedWidth
