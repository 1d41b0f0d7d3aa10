pub mod Maps
pub mod TreeLemmas
pub mod BigEndian
pub mod Passing
pub mod StableOrder
pub mod WalkLemmas
