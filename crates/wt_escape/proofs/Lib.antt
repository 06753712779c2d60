pub mod Founds
pub mod ShownBreaks
pub mod Signing
pub mod SpelledBack
mod TreeCases
