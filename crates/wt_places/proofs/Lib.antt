mod Cases
pub mod Passing
pub mod Rewriting
pub mod Turning
pub mod Walking
