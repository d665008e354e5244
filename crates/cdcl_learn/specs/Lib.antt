pub mod Sight
pub mod Cut
pub mod Levels
pub mod Trace
pub mod Shorter
pub mod Analysis
