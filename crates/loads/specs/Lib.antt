pub mod Files
pub mod Loads
pub mod Outputs
