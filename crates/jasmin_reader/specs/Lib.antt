pub mod Faults
pub mod Grammar
pub mod Labels
pub mod LabelsView
pub mod Assembly
pub mod Turned
pub mod Reading
