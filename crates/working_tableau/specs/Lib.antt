pub mod Solves
pub mod Starts
pub mod Crossings
