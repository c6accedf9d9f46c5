pub mod RunLaws
pub mod RunStops
pub mod RunState
pub mod BuildTests
pub mod BuildOut
