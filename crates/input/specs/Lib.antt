pub mod Bytes
pub mod Split
pub mod Judged
pub mod Lines
