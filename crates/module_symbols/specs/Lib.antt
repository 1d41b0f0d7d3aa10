pub mod Contents
pub mod Hashed
pub mod Roles
pub mod SymbolTables
pub mod Versions
pub mod Listed
pub mod Exports
pub mod Needs
