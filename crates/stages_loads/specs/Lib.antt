pub mod Tables
pub mod Modules
pub mod Loads
pub mod Listed
pub mod Read
