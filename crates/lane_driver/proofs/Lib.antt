pub mod Staying
pub mod Joining
pub mod Histories
pub mod Placing
pub mod Started
pub mod Gathering
pub mod Lasting
