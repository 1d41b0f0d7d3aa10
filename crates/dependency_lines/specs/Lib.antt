pub mod GoodPaths
pub mod Modules
pub mod Places
pub mod Spaces
pub mod Tables
