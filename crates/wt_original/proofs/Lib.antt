pub mod Ends
pub mod Gathering
pub mod Nodes
pub mod Numbers
pub mod Sames
pub mod Roles
