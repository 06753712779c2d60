mod Cases
pub mod Characters
pub mod PlaceLaws
