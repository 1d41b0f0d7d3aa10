pub mod TakenLemmas
pub mod LineLemmas
pub mod RemoveSteps
pub mod OutLemmas
