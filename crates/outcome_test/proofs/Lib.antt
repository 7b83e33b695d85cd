pub mod Groups
pub mod Resumed
pub mod Rows
pub mod Showing
pub mod Shown
