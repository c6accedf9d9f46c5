pub mod IndexLaws
pub mod LineLaws
pub mod Printed
pub mod TextLaws
