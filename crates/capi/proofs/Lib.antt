pub mod OutLaws
pub mod SameTargetCalls
pub mod TellLaws
