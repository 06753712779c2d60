pub mod OpenTags
pub mod OpenTexts
pub mod TextCalls
pub mod Passes
pub mod Toggles
pub mod GroupItems
pub mod PieceParts
pub mod TangledLaws
