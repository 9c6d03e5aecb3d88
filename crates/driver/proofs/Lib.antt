mod Reading
mod Ends
pub mod Words
