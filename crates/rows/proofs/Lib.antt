pub mod Progress
pub mod Grid
pub mod Pivots
pub mod Exchanges
