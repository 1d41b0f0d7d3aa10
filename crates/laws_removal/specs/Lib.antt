pub mod Loads
pub mod Removals
pub mod Back
pub mod Rows
