pub mod EqualParts
pub mod Naming
pub mod ShortCalls
pub mod ChoiceLaws
pub mod WholeLists
mod Cases
mod FunctionCases
