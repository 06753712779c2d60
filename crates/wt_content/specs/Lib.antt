pub mod Children
pub mod Content
pub mod ContentLaws
pub mod Grammar
pub mod Standings
pub mod Typed
pub mod Views
