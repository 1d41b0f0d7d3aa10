pub mod LoadLemmas
pub mod PassLemmas
pub mod UnloadedLemmas
pub mod BackLemmas
