pub mod BasisSteps
pub mod ResolvedSteps
pub mod PlanSteps
pub mod LoadSteps
pub mod CourseSteps
