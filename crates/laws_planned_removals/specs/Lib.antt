pub mod Listed
pub mod Courses
pub mod Join
