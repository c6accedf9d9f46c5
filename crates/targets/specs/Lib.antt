pub mod Inner
pub mod Nearest
pub mod Sixteen
pub mod Targets
