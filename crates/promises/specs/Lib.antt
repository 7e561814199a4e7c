pub mod Promises
pub mod Histories
