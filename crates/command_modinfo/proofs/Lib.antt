pub mod Named
pub mod FieldSteps
pub mod SourceSteps
