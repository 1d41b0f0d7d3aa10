pub mod Offsets
pub mod Ends
pub mod Plain
pub mod Symbols
pub mod Laid
