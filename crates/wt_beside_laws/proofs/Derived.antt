-- Blocks of a page as it is: what is asked of them by their items follows from the page.
pub mod NodesHave
pub mod BlockContents
pub mod CutPages
pub mod BodyRead
mod Cases
