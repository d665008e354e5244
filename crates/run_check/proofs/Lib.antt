pub mod SettledLemmas
pub mod VerdictLemmas
pub mod CheckedLemmas
pub mod RecheckedLemmas
pub mod TrimmedLemmas
pub mod CountLemmas
pub mod WrittenLemmas
pub mod CertifiedLemmas
