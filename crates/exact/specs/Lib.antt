pub mod Bounds
pub mod Vectors
pub mod Lists
pub mod EndToEnd
pub mod Value
pub mod Divisors
pub mod LowestTerms
pub mod Ranks
