pub mod Texts
pub mod Lines
pub mod Derivations
pub mod Runs
pub mod Refusals
pub mod Searches
pub mod Laws
