pub mod Known
pub mod Query
pub mod Told
pub mod Search
pub mod MovedFormula
