pub mod Fills
pub mod Divided
pub mod Weighed
pub mod Directed
