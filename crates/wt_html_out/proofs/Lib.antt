pub mod JoinedValue
pub mod ShownParts
pub mod GroupCounts
pub mod Htmls
pub mod Runs
