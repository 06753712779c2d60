-- Contents with calls, as they are written.
pub mod Joined
pub mod Ends
pub mod Levels
pub mod Reads
pub mod Signs
pub mod Held
pub mod AllHeld
pub mod NewContents
pub mod Cases
pub mod InPieces
pub mod FromPage
pub mod Letters
pub mod ReadApart
mod PieceCases
