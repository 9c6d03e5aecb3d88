pub mod Order
pub mod Finding
pub mod Fair
pub mod Answering
pub mod Points
pub mod Theorems
