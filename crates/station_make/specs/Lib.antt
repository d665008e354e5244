pub mod Station
pub mod StationText
