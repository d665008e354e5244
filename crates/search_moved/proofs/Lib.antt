pub mod TellLemmas
pub mod MovedLemmas
pub mod StartLemmas
pub mod LeftLemmas
pub mod MovedDrawingLemmas
