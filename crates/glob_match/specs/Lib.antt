pub mod Front
pub mod Decision
pub mod Words
pub mod States
pub mod Progress
pub mod Runs
pub mod Ends
pub mod Backward
