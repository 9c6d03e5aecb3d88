pub mod Rules
pub mod Settings
pub mod Refusals
pub mod HouseList
pub mod Accepted
