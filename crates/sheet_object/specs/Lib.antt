pub mod Sheet
pub mod Further
pub mod Symbols
pub mod Contents
pub mod Object
pub mod Writing
