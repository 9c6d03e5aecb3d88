pub mod Small
pub mod Columns
