pub mod DataSoFar
pub mod Finished
pub mod Followers
pub mod Kept
pub mod OpenedChild
pub mod Preorder
