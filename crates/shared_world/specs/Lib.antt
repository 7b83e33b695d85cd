pub mod HeapTypes
pub mod Heaps
pub mod Worlds
pub mod Kept
pub mod WorldView
pub mod Reading
pub mod Fitting
