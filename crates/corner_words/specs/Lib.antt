pub mod Corners
pub mod Reads
pub mod Enters
