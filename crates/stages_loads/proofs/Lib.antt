pub mod TableSteps
pub mod KernelLemmas
pub mod ModuleSteps
pub mod LoadSteps
pub mod ListedSteps
