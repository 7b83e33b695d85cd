pub mod Shifts
pub mod OneMinimal
pub mod Rounds
pub mod Following
pub mod Search
pub mod Laws
pub mod Answers
pub mod StateView
