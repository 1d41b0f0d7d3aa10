pub mod Facts
pub mod Faults
pub mod FaultText
pub mod Module
pub mod Times
pub mod Texts
