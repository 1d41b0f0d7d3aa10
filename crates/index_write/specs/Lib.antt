pub mod Lists
pub mod Parts
pub mod Groups
pub mod Links
