pub mod Cut
pub mod CutIs
pub mod CutOnly
pub mod Openings
pub mod RecutCases
pub mod Recuts
