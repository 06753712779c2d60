pub mod Piles
pub mod Places
pub mod Rewritten
pub mod Turns
pub mod Views
