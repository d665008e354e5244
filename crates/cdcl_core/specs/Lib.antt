pub mod Faults
pub mod Kept
pub mod Belongs
pub mod Roots
pub mod Search
pub mod Rounds
