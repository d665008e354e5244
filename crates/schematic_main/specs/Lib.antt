pub mod Commands
pub mod Run
pub mod WholeRuns
pub mod So
pub mod Excluded
pub mod Refusals
pub mod SearchedRuns
