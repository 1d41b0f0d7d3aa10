pub mod DiskSeen
pub mod StreamSeen
pub mod WalkSeen
