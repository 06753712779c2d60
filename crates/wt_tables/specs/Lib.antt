pub mod CellViews
pub mod Cells
pub mod CutLaws
pub mod Extents
pub mod Parts
pub mod Views
