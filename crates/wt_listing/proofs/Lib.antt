mod Cases
pub mod Lines
