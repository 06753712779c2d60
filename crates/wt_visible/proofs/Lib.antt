mod Cases
pub mod SameTells
pub mod DifferingLaws
pub mod ShownChildren
pub mod RestoredShown
pub mod MarksShowNothing
pub mod Within
pub mod Tallies
pub mod Decided
mod KeptMarksCases
pub mod MarksAlone
pub mod AlikeSources
pub mod Sizes
