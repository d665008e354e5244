pub mod Metres
pub mod MetresText
pub mod Reading
