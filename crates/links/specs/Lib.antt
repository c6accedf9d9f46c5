pub mod Links
pub mod Order
pub mod Inner
pub mod Ties
