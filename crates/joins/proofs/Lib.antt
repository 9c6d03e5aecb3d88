pub mod Halves
mod Columns
