pub mod OutcomeLemmas
pub mod DrawnLemmas
pub mod PictureLemmas
pub mod AfterReadLemmas
pub mod FieldLemmas
pub mod SignalledLemmas
pub mod FrontedLemmas
