pub mod Fields
pub mod Aliases
pub mod Laws
pub mod Parts
