pub mod Lines
pub mod Maps
pub mod Stated
pub mod Text
pub mod Kinds
pub mod AllStated
