pub mod JoinLemmas
pub mod SumLemmas
pub mod SizeLemmas
pub mod NodeLemmas
pub mod TopLemmas
pub mod OutputLemmas
