pub mod FaultText
pub mod Inner
pub mod Object
pub mod Overlap
pub mod Places
pub mod Symbols
