-- Bold and italic beside calls: what is sent for a paragraph of the page is taken, and makes the new one.
pub mod Found
pub mod Sent
pub mod Faults
pub mod Put
pub mod Things
pub mod Free
pub mod Shown
pub mod Written
pub mod Lined
pub mod Groups
pub mod Whole
pub mod Headings
pub mod Making
pub mod Apart
pub mod CallSources
pub mod NodeThings
pub mod BlockNodes
pub mod NodeCases
pub mod Cases
mod PageCases
pub mod InsideCases
mod InsidePageCases
mod OtherStyleCases
pub mod HeadingCases
mod HeadingPageCases
