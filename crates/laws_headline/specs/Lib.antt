pub mod Objects
pub mod Met
pub mod Needed
