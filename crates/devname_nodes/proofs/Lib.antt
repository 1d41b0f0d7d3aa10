pub mod FirstSteps
pub mod LineSteps
pub mod WrittenSteps
