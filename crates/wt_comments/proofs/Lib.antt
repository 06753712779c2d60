pub mod Remarks
pub mod Words
