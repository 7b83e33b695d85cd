pub mod Faults
pub mod Judging
pub mod Linked
pub mod Bodies
pub mod Programs
pub mod Linking
