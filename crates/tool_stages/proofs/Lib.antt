pub mod Linked
pub mod FirstValues
pub mod Telling
