pub mod Number
pub mod Part
pub mod File
pub mod Params
pub mod Writing
