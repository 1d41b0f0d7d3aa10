pub mod Line
pub mod Unmet
pub mod Forms
