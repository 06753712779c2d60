mod Cases
pub mod Gathered
pub mod HeldChildren
pub mod InStep
pub mod InsideEnd
pub mod OneByOne
pub mod Remarks
pub mod SameSeen
pub mod UneditedLaws
