pub mod Recorded
pub mod Repeated
pub mod Waiting
