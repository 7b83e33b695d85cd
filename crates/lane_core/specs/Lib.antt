pub mod Parts
pub mod Slots
pub mod Lanes
pub mod LaneFields
pub mod Leaving
