pub mod KnownSteps
pub mod NamedSteps
