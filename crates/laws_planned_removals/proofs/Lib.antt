pub mod ListedLemmas
pub mod SayingLemmas
pub mod CourseLemmas
pub mod JoinLemmas
pub mod AskedLemmas
pub mod MeetLemmas
pub mod EndedLemmas
