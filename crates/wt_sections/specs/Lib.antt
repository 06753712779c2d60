pub mod Gathering
pub mod Sections
pub mod SectionLaws
