pub mod Puts
pub mod Ternaries
