pub mod Records
pub mod Regions
pub mod Lists
pub mod Outside
