pub mod Written
pub mod Reasons
pub mod Refusals
