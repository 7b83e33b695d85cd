pub mod Faults
pub mod Locals
pub mod Merging
pub mod InPlace
