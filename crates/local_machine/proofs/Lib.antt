pub mod Small
pub mod Stands
pub mod Settled
pub mod Moved
pub mod Reached
pub mod Rested
pub mod Absorbed
pub mod Uses
