pub mod PromiseLaws
pub mod SelserFound
pub mod SelserRuns
pub mod SelserUnchanged
pub mod UnmarkedEdits
