pub mod Ends
pub mod Places
pub mod Refusals
pub mod Verdicts
