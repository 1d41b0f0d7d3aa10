pub mod CourseSteps
pub mod InsideSteps
pub mod LineSteps
pub mod WordSteps
