pub mod NameTable
pub mod FirstSeen
pub mod Keys
