pub mod TextSteps
pub mod MapSteps
pub mod StatedSteps
pub mod PlainAlias
