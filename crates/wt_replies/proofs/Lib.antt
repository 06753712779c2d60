mod Cases
mod IndexLaws
mod RunLaws
mod RunCases
