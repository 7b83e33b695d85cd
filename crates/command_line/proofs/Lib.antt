pub mod Taking
pub mod Spelling
