pub mod Pattern
pub mod Parts
