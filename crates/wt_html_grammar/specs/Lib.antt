pub mod Signs
pub mod FirstBytes
pub mod Grammar
pub mod Machine
pub mod Places
pub mod Markup
pub mod Events
