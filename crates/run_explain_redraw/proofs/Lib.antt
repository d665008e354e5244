pub mod ExplainedLemmas
pub mod PointLemmas
pub mod JudgedLemmas
pub mod RedrawnLemmas
