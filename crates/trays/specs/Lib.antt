pub mod Trays
pub mod Commands
pub mod Weights
pub mod Directions
