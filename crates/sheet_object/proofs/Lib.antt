pub mod FurtherLemmas
pub mod NameLemmas
pub mod PartLemmas
pub mod DistinctLemmas
pub mod SheetLemmas
pub mod SymbolLemmas
