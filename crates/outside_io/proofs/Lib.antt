pub mod Results
pub mod Unchanged
pub mod StreamLemmas
pub mod WholeFileLemmas
pub mod NumberLemmas
pub mod CriterionLemmas
pub mod LineLemmas
