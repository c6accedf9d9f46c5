pub mod Walk
pub mod Inner
pub mod Ground
