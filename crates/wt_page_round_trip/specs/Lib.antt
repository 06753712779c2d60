pub mod GroupTexts
pub mod PageTree
pub mod Numbers
pub mod SameBodies
pub mod OpenedBodies
pub mod JoinedTexts
