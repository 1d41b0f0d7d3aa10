pub mod Members
pub mod Names
pub mod Plan
pub mod Lines
pub mod Loads
pub mod Binding
pub mod Premises
pub mod Instance
