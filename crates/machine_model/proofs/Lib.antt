pub mod Examples
pub mod Locks
pub mod Rings
pub mod Runs
pub mod Picks
pub mod Turns
