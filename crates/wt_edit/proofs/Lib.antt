pub mod AskedLaws
pub mod EditLaws
pub mod GroupPlaces
pub mod Meanings
pub mod PagePlaces
pub mod SectionPlaces
