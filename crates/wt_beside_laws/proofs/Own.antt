-- What the source of a node of the page is, whatever is written behind it: what is asked of it follows from the page.
pub mod Words
pub mod References
pub mod Crossing
pub mod OpenEnds
pub mod OpenLast
pub mod Reading
pub mod Stops
pub mod Lines
pub mod Held
pub mod Alone
pub mod Kept
