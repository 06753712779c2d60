pub mod BodyWalk
pub mod Borders
pub mod ChildrenCases
pub mod ListWalk
pub mod Opening
pub mod Pushing
pub mod Splicing
pub mod StepWalk
