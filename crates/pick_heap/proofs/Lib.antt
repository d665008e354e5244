pub mod MatchLemmas
pub mod HeapLemmas
