pub mod Carrying
mod Cases
pub mod Growing
pub mod HeldLaws
pub mod Insides
pub mod RawTags
pub mod Trees
