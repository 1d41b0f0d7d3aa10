pub mod NameSteps
pub mod LineSteps
