pub mod Replies
pub mod States
pub mod ReadingFaults
pub mod Pairs
pub mod Steps
