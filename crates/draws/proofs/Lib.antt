pub mod Radius
pub mod Fills
