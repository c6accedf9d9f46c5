pub mod Bits
pub mod Byte
pub mod Gather
pub mod LayoutLaws
pub mod Packed
pub mod Pen
