pub mod CallTexts
mod Cases
pub mod Params
pub mod ReadParams
pub mod SoundParts
