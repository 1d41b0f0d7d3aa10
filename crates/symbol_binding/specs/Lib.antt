pub mod Symbols
pub mod Needs
pub mod Provider
pub mod Unmet
pub mod Worked
