pub mod Seen
pub mod Values
pub mod Found
