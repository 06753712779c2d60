pub mod Content
pub mod Guards
pub mod Letters
pub mod Table
pub mod Views
pub mod WrittenLaws
