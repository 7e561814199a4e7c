pub mod FirstNumbers
pub mod Columns
pub mod Rows
pub mod FirstWords
