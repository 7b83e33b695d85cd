pub mod StackView
pub mod Families
pub mod Acts
