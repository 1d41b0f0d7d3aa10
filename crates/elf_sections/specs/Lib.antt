pub mod FaultText
pub mod Sections
pub mod Shape
pub mod Strings
