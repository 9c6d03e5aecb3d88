pub mod Buffers
pub mod Reading
pub mod Signs
pub mod Writing
pub mod RoundTrip
pub mod Examples
