pub mod SizeSteps
pub mod KeySteps
pub mod LineSteps
pub mod FileSteps
pub mod MakingSteps
pub mod UnmetSteps
