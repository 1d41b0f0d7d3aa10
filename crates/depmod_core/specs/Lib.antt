pub mod Dependencies
pub mod BuiltIn
pub mod Files
pub mod Making
pub mod Worked
