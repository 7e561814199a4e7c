pub mod Carrying
pub mod Living
