pub mod Faults
pub mod Listed
pub mod Views
pub mod Asked
