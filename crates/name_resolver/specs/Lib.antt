pub mod Faults
pub mod Index
pub mod IndexView
pub mod Words
pub mod BuiltIn
pub mod Descriptors
pub mod Names
pub mod Calls
