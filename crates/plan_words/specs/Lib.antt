pub mod OptionValues
pub mod Arguments
pub mod WordFaults
pub mod Soundness
pub mod Words
