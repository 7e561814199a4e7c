pub mod Describing
pub mod Encoding
pub mod Questions
pub mod RangeVerdicts
pub mod RangedRows
pub mod Ranging
pub mod Saying
