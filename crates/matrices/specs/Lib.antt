pub mod Matrices
pub mod Lengths
pub mod Tables
pub mod Triangles
pub mod Elements
