pub mod ReadLemmas
pub mod ExtraLemmas
pub mod CourseLemmas
pub mod PutLemmas
pub mod LeftLemmas
pub mod TableLemmas
