pub mod TracedLemmas
pub mod DecodeLemmas
