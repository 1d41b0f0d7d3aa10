pub mod TableLines
pub mod MapLines
pub mod SymversLines
pub mod KernelTable
