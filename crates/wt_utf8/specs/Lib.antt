pub mod Begun
pub mod Places
