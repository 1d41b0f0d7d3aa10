pub mod TableSteps
pub mod SeenSteps
