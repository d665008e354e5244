pub mod Task
pub mod Known
pub mod Search
pub mod Told
pub mod Asking
pub mod Grown
