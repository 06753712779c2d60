pub mod TriedLaws
