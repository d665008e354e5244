pub mod Part
pub mod Sum
