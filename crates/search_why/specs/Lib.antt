pub mod Explained
pub mod Task
pub mod Asked
pub mod Narrowed
pub mod Outcome
