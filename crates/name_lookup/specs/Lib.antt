pub mod Maps
pub mod Found
pub mod Groups
pub mod Wildcards
pub mod Aliases
pub mod Lookups
pub mod Tables
pub mod Seen
