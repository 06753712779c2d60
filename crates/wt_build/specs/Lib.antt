pub mod Blocks
pub mod Carrying
pub mod CellGroups
pub mod Nodes
pub mod RowGroups
pub mod SeenSigns
