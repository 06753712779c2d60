-- Headings with calls in them, as they are written.
pub mod Framed
pub mod Held
pub mod NewContents
pub mod Whole
pub mod FromPage
pub mod Letters
pub mod Pieced
pub mod TextAndCalls
pub mod CallsApart
pub mod Cases
mod PageCases
