pub mod Folds
pub mod Leaves
