pub mod Digits
pub mod PartsLemmas
pub mod WrittenLemmas
