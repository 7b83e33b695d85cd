pub mod Statuses
pub mod Lines
pub mod Accepting
pub mod Calls
pub mod Files
pub mod Stages
