pub mod Answered
pub mod Asked
pub mod Copied
pub mod Lookups
pub mod Past
pub mod Widened
pub mod Zeros
