pub mod Besides
pub mod NewPages
