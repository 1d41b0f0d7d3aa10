pub mod Index
pub mod Binding
pub mod Indexed
pub mod Folder
pub mod Steps
pub mod Standing
