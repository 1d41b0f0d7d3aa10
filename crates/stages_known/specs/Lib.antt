pub mod Known
pub mod Named
