mod Cases
pub mod OpenTags
pub mod Endings
pub mod Sources
pub mod Passing
pub mod Schemes
pub mod QuoteRuns
pub mod SharedBytes
pub mod HeldOpen
pub mod LinesJoined
pub mod RunsJoined
pub mod StandingOpen
pub mod SliceItems
pub mod SlicedBytes
pub mod SlicedPieces
pub mod SlicedBreaks
pub mod PieceTexts
