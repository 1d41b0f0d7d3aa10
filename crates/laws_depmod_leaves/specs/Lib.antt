pub mod Comes
pub mod Course
pub mod Left
pub mod Loads
