pub mod Groups
pub mod Inside
pub mod Loadable
pub mod SoftSteps
pub mod Troubled
