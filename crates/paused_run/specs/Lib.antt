pub mod Pauses
pub mod Partings
pub mod PausedView
pub mod Laws
