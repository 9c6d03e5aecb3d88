pub mod Bytes
pub mod Fields
pub mod Lines
pub mod Records
pub mod Joined
pub mod Examples
