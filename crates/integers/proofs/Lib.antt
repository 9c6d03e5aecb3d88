pub mod Tests
pub mod Ring
pub mod Sizes
pub mod Lists
pub mod Sums
pub mod Residues
pub mod Products
pub mod Words
