pub mod IntLemmas
pub mod OrderLemmas
