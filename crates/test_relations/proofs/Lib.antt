mod LetterSteps
mod TreeSteps
