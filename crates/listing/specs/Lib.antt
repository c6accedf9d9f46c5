pub mod Text
pub mod Lines
pub mod Listing
pub mod Inner
