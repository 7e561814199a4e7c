pub mod Groups
pub mod Growths
pub mod Lines
