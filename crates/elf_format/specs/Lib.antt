pub mod Relocation
