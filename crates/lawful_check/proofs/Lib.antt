pub mod HoldingLemmas
pub mod BreakLemmas
pub mod LeastLemmas
