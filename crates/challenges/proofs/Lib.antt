pub mod Terms
pub mod Columns
pub mod Sums
