pub mod Sources
pub mod Planner
pub mod Rules
pub mod Kept
pub mod Softdeps
