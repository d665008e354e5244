pub mod Resolved
pub mod Sound
pub mod Plans
pub mod Places
pub mod Sites
pub mod Answers
