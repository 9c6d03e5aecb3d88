pub mod Sums
pub mod Clamped
pub mod Ties
