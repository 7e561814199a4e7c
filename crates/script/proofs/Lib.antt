pub mod Growing
pub mod Spacing
pub mod Readings
