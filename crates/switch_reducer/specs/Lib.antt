pub mod Sorted
pub mod Reduced
pub mod Rounds
pub mod Search
pub mod Answers
pub mod StateView
pub mod Laws
