pub mod Numbers
pub mod Orders
pub mod Holdings
pub mod Entering
pub mod Masks
pub mod Worked
