pub mod ChildFaulting
mod ContentCases
pub mod Faulting
pub mod FirstReason
pub mod GrammarLaws
pub mod LinksApart
pub mod TypedStands
pub mod Untouched
pub mod Urls
pub mod UrlsRead
