pub mod Differing
