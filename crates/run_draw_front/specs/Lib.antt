pub mod Pictured
pub mod Drawn
pub mod Signalled
pub mod Tried
pub mod FrontText
pub mod Fronted
