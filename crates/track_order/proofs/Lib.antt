pub mod ReachLemmas
pub mod FillingLemmas
pub mod OrderingLemmas
pub mod TableLemmas
pub mod SplitLemmas
pub mod OrderLemmas
pub mod OneOrder
pub mod TurnedLemmas
