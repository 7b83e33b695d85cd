pub mod Taking
pub mod Meeting
pub mod Nearest
pub mod Least
pub mod Subsumed
pub mod Ranks
pub mod Unchanged
