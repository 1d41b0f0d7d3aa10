pub mod Chosen
pub mod DependencyLine
pub mod Listing
pub mod Order
pub mod Places
pub mod Search
pub mod Shown
pub mod Tree
