-- Texts beside and inside of bold and italic.
pub mod NestRuns
pub mod NestToggles
pub mod NestStyles
pub mod NestForests
pub mod Delimiters
pub mod NestReads
pub mod StyledSigns
pub mod StyledLines
pub mod StyledParagraphs
pub mod StyledShown
pub mod SentStyles
pub mod StyledNodes
pub mod BlockNodes
pub mod BlockStyles
pub mod SentAmong
pub mod SentWhole
pub mod SentFaults
pub mod Making
pub mod SpelledApart
pub mod Plain
pub mod WithoutStyles
pub mod HeldStyles
pub mod StyledWritten
pub mod StyledHeadings
pub mod StyledAgain
pub mod OldShut
pub mod OldStyled
pub mod StyledTexts
pub mod OwnStyled
pub mod StyleKinds
pub mod StyleStarts
pub mod OwnLed
pub mod LedLines
pub mod OwnFirst
pub mod OwnNests
pub mod OwnSpine
pub mod SentNests
pub mod SentKept
pub mod UrlEnds
pub mod UrlsApart
mod Cases
mod InCases
mod EditCases
