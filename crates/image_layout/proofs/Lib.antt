pub mod Aligning
pub mod EndLemmas
pub mod OffsetLemmas
pub mod NextLemmas
pub mod SymbolLemmas
pub mod PlainLemmas
pub mod PieceLemmas
pub mod LaidLemmas
