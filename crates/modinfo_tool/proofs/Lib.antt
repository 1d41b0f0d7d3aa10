pub mod LineSteps
pub mod ParameterSteps
