pub mod PlaceLemmas
pub mod NarrowLemmas
pub mod OutcomeLemmas
pub mod LeftLemmas
