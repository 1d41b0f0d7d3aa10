pub mod FormSteps
pub mod StatedLines
pub mod WordSteps
pub mod TextLines
pub mod LineSteps
pub mod WrittenSteps
