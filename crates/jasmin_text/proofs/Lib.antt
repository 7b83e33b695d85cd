pub mod Digits
pub mod Quoted
pub mod Skipping
pub mod Within
pub mod Turns
pub mod InOrder
pub mod Slices
