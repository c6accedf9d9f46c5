pub mod Entry
pub mod Inner
