pub mod Resolved
pub mod Planned
pub mod Loaded
pub mod Parts
pub mod Modprobe
