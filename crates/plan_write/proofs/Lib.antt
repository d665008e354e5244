pub mod LineLemmas
pub mod OrderWords
pub mod SheetParts
pub mod PictureLineLemmas
