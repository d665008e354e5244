pub mod Breaks
pub mod Holding
pub mod Columns
