pub mod Wanted
pub mod TrimmedLog
pub mod Shown
pub mod Found
pub mod Trimmed
pub mod Shortened
pub mod Hinting
pub mod HintRoom
