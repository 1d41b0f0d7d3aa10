mod Begins
pub mod Buffer
pub mod ByNumber
pub mod Faults
pub mod Finds
pub mod Firsts
pub mod Keys
mod Kept
pub mod Lines
pub mod Named
pub mod NamedFiles
pub mod Own
pub mod Placed
pub mod Sorting
pub mod Stems
