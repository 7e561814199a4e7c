pub mod Bounds
pub mod Chains
pub mod Walks
pub mod Directions
pub mod Searching
