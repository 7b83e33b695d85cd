pub mod Clocking
pub mod Giving
pub mod InOrder
pub mod LastAccesses
pub mod Legal
pub mod PlacesKept
pub mod Racing
pub mod Times
