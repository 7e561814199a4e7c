pub mod FromWords
pub mod Listing
pub mod ClearBits
mod Slacks
