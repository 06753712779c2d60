pub mod Breaks
pub mod Escapes
mod SignCases
pub mod SpellingLaws
pub mod Texts
