-- Paragraphs and headings of a page that calls nothing, told by its lines: what has to be known of each follows from the page.
pub mod Signs
pub mod HeadLevels
pub mod HeadParts
pub mod HeadItems
pub mod RestEnds
pub mod OwnReads
pub mod FreeNodes
pub mod ToldPages
pub mod ToldNodes
mod ToldCases
