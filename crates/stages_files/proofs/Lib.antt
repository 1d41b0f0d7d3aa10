pub mod FileSteps
pub mod TableSteps
pub mod StatedSteps
pub mod ConfigurationSteps
