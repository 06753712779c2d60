pub mod Codes
pub mod Joining
pub mod Exclusions
pub mod OneOutput
pub mod Counting
pub mod Late
pub mod OwnHtml
mod Cases
pub mod Unedited
pub mod Alone
mod AloneCases
pub mod Bytes
mod TurnsCases
pub mod Choosing
pub mod Deep
pub mod Fitting
pub mod Going
pub mod Standing
pub mod Touching
pub mod TurnsUnedited
pub mod Unmoved
