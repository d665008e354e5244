pub mod ArgumentLemmas
pub mod OrderTextLemmas
pub mod PlaceLemmas
pub mod SoundLemmas
pub mod WordLemmas
pub mod FileLemmas
pub mod PartLemmas
pub mod AnswerLemmas
