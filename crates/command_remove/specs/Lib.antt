pub mod Listed
pub mod Lines
pub mod Over
pub mod Remove
pub mod Taken
