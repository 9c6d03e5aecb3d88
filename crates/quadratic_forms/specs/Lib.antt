pub mod Forms
pub mod Counts
pub mod Search
pub mod Points
