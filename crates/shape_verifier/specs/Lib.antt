pub mod Judging
pub mod Operands
pub mod Passing
pub mod Kept
pub mod Answers
pub mod Turning
pub mod Verdicts
