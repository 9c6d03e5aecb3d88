pub mod Lengths
pub mod Verifying
