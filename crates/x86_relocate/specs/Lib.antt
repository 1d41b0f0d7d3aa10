pub mod Patched
pub mod Word
