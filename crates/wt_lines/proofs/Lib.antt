pub mod Backs
pub mod Chunks
pub mod KindRows
pub mod LineLaws
pub mod FullLines
pub mod PieceRuns
pub mod PieceSigns
mod Rows
pub mod Splits
pub mod Words
