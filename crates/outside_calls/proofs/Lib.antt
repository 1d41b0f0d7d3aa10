pub mod Entries
pub mod ReadingLemmas
pub mod Listed
pub mod RisingLemmas
pub mod MemLists
