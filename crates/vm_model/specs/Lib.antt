pub mod Ends
pub mod Program
pub mod Plain
pub mod Failures
