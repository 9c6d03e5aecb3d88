pub mod Telling
pub mod Passing
