pub mod Corners
pub mod Outcomes
pub mod FirstCorners
pub mod Crossings
pub mod MasksAcross
