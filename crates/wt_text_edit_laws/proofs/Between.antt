-- A text between two other parts of a page.
pub mod LineWords
pub mod LineComments
pub mod LineRemarks
pub mod LineTags
pub mod ClosingTags
pub mod LineForms
pub mod Fronts
pub mod Shown
pub mod TagsBefore
pub mod SignParts
pub mod TextReads
pub mod BraceWords
pub mod NoCalls
pub mod LessBraces
mod Cases
