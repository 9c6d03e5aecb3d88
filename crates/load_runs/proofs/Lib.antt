pub mod Asking
pub mod Reading
pub mod Blocks
