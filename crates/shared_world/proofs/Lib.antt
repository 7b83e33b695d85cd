pub mod Everywhere
pub mod Keeping
pub mod Legal
pub mod Fits
