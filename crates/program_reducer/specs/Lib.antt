pub mod Reductions
pub mod Refusals
