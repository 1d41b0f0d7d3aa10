pub mod Pieces
pub mod Places
pub mod MapOrder
pub mod ByPlace
pub mod Held
