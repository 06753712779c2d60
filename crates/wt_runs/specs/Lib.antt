pub mod Children
pub mod RunTrees
