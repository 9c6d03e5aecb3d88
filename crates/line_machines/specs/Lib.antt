pub mod Machines
pub mod Cuts
