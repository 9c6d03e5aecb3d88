pub mod Bases
pub mod Steps
pub mod Signs
pub mod Digits
pub mod Rows
pub mod Examples
