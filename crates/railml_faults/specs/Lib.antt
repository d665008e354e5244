pub mod Rows
pub mod Faults
pub mod Ids
pub mod Tables
pub mod Telling
