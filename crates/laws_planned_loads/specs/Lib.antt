pub mod Acts
pub mod Files
pub mod Loads
pub mod Listed
pub mod Courses
pub mod Reading
