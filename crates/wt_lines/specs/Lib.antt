pub mod Kinds
pub mod Lines
pub mod Pieces
pub mod Signs
