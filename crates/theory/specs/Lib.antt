pub mod Links
pub mod Chains
pub mod Distance
pub mod Rows
pub mod Walk
pub mod Plain
