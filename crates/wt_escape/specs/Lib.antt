pub mod LineBreaks
pub mod OwnContent
pub mod Units
