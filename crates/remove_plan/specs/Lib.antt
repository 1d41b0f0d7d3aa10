pub mod Removal
pub mod Steps
pub mod Marks
