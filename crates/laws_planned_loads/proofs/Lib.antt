pub mod RunLemmas
pub mod FileLemmas
mod RefusedLemmas
pub mod LoadLemmas
pub mod ListedLemmas
pub mod KnownLemmas
mod ClosedLemmas
pub mod CourseLemmas
pub mod WholeLemmas
pub mod EndLemmas
mod SpaceLemmas
mod SoftdepLemmas
mod EndsLemmas
mod ReadingLemmas
mod PassLemmas
