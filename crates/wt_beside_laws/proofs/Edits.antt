-- Edits that type texts beside nodes that stay.
pub mod OldPages
pub mod Pieces
pub mod FlatEdits
pub mod FullTrees
pub mod OldFull
pub mod NewPages
pub mod FlatUnmarked
pub mod FlatPagesAgain
pub mod Cases
