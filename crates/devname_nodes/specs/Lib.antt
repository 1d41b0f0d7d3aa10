pub mod Numbers
pub mod Nodes
pub mod Line
pub mod File
