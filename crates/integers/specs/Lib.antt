pub mod Lists
pub mod Sums
pub mod Residues
pub mod Words
pub mod Tests
pub mod Ranges
