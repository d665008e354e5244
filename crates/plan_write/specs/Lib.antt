pub mod GraphText
pub mod SheetLine
pub mod SheetText
pub mod SvgText
