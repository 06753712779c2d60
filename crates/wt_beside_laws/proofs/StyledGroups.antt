-- Bold and italic beside calls: what such a content is in the page, where calls give words.
pub mod Nesting
pub mod Lines
pub mod Paragraphs
pub mod Blocks
pub mod Shown
pub mod Headings
pub mod Even
