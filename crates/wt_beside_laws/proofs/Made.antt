-- Contents of paragraphs and headings of a page that take texts beside nodes that stay.
pub mod ShownLines
pub mod OwnPages
pub mod OldBlocks
pub mod Levels
pub mod Sealed
pub mod NodesSealed
pub mod Closes
pub mod Items
pub mod Letters
pub mod Written
pub mod FewerBraces
pub mod Inline
pub mod Making
pub mod Cases
