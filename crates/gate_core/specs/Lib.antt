pub mod Seats
pub mod Gates
pub mod Histories
