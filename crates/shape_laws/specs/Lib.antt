pub mod Fitting
pub mod Linked
pub mod States
pub mod Worlds
