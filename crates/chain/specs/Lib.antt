pub mod Limits
pub mod Small
pub mod Params
pub mod Nodes
pub mod Reports
pub mod Chain
pub mod Program
pub mod Trees
