pub mod Inner
pub mod Numbers
pub mod Sizes
pub mod Tests
pub mod Told
