pub mod Schedules
pub mod Outcomes
pub mod Finds
pub mod Laws
