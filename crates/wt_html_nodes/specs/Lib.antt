pub mod Texts
pub mod Told
pub mod Words
pub mod Heads
