pub mod Bounds
pub mod Refusals
pub mod Words
pub mod Kinds
pub mod Layout
pub mod Faults
pub mod Steps
pub mod Parts
