pub mod Working
pub mod Histories
pub mod Joined
pub mod Tables
pub mod Gathered
pub mod Finishing
