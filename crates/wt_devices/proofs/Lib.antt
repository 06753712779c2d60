pub mod Fronts
pub mod Contents
pub mod Shelves
