pub mod Alike
pub mod Passed
pub mod Resumed
pub mod Kept
