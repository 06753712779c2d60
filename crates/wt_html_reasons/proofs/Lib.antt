pub mod Characters
pub mod Texts
pub mod Opened
pub mod Explained
pub mod States
pub mod First
mod Cases
