pub mod Positions
pub mod ShapeLemmas
pub mod StringLemmas
pub mod TestLemmas
