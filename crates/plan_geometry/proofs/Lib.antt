pub mod ComparingLemmas
pub mod GreatestLemmas
pub mod LineLemmas
