pub mod Splice
pub mod Views
