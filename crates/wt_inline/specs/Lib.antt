pub mod Carried
pub mod Grown
pub mod Inline
pub mod Inside
pub mod ItemTree
pub mod Parts
pub mod RawTag
pub mod View
