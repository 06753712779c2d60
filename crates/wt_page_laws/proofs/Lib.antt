pub mod Alls
pub mod LineWords
pub mod Children
pub mod EndGaps
pub mod TightNodes
pub mod TightBlocks
pub mod TightBody
pub mod Told
pub mod Named
pub mod CellNames
pub mod PreSpaces
pub mod TermEnds
mod Cases
pub mod HousedNodes
pub mod HousedLists
pub mod HousedBody
pub mod Blanks
pub mod TilesCases
pub mod Grammar
pub mod Hrefs
pub mod Keys
pub mod Media
pub mod Switches
pub mod BoldCases
pub mod Choice
pub mod Counts
pub mod InnerStyle
pub mod InnerSteps
pub mod Widths
pub mod Cutting
pub mod Deep
pub mod Marks
pub mod Breaks
pub mod ItemWalks
pub mod Doubts
pub mod Repeats
pub mod TableEnds
pub mod TextDoubts
pub mod MadeLines
pub mod FirstAttributes
pub mod Following
pub mod Rows
pub mod Shown
pub mod NodeFields
mod TreesCases
mod SectionsCases
pub mod Headings
pub mod Levels
pub mod Reaches
pub mod SectionParts
pub mod Refusing
mod WorkCases
pub mod Counting
pub mod Entries
pub mod Asking
mod DevicesCases
mod GatherCases
mod SwitchCases
mod ToldCases
mod TrimCases
mod GroupCases
mod TableCases
pub mod Fields
pub mod GroupTexts
pub mod MwAccepted
pub mod Switching
pub mod SyncAccepted
pub mod Tables
pub mod Tidy
pub mod Trimming
pub mod Gathering
pub mod OneAnswer
pub mod OnePage
pub mod Utf8Texts
pub mod OneHead
pub mod PlainTemplates
pub mod MarkedTrees
pub mod MarkedElements
pub mod MarkedBodies
pub mod MarkedText
