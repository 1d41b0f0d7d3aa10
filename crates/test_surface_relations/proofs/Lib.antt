pub mod TreeSteps
