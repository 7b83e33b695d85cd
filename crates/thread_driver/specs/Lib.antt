pub mod Recordings
pub mod Answers
pub mod Waiting
