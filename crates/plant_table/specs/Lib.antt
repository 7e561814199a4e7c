pub mod Places
pub mod Tabled
