pub mod Layout
pub mod Held
pub mod Exchanges
pub mod Leaving
pub mod Readings
pub mod Slacks
pub mod Entering
pub mod Artificial
