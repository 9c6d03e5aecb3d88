mod Instances
pub mod Words
