-- A heading with a text among any other blocks.
pub mod HeadingSigns
pub mod HeadingRows
pub mod TypedTexts
mod Cases
