pub mod Faults
pub mod Fields
pub mod Places
pub mod Visited
pub mod Pending
pub mod TextEnds
pub mod ValueStarts
pub mod Runs
