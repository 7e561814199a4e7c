pub mod Cells
pub mod Rewrites
pub mod Pivots
pub mod Guards
