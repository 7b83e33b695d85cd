pub mod Places
pub mod Rows
pub mod Steps
pub mod Projected
pub mod Alone
pub mod Targets
