pub mod RunCuts
