pub mod Names
pub mod Texts
pub mod State
pub mod Reduced
pub mod Tiles
