pub mod Checking
pub mod Runs
pub mod Answers
pub mod Headline
pub mod Completeness
