pub mod MachineView
pub mod Turns
