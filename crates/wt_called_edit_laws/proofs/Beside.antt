-- What is sent for paragraphs with calls in them, and what it makes.
pub mod Counts
pub mod Found
pub mod GroupsFound
pub mod Holding
pub mod Sent
pub mod Uncalled
pub mod Making
pub mod Apart
pub mod Cases
pub mod PageCases
pub mod EndCases
pub mod FirstCases
mod LastCases
pub mod BothCases
mod LinkCases
pub mod RoundCases
mod RoundPageCases
mod EmptyCases
