pub mod RemovalLemmas
pub mod MarkLemmas
pub mod UserLemmas
pub mod CommandLemmas
