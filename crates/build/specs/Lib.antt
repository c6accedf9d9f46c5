pub mod Build
pub mod Inner
