pub mod Isolations
pub mod Refusals
