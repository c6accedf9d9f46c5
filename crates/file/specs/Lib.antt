pub mod Index
pub mod Writer
pub mod Reader
pub mod Inner
