pub mod IntVars
pub mod OrderInt
