pub mod Demands
pub mod EndToEnd
pub mod Starred
pub mod Targets
pub mod Within
