pub mod Alike
pub mod Left
pub mod Stored
