pub mod Fronts
pub mod Within
pub mod Parts
pub mod KeptNames
pub mod NewLabels
