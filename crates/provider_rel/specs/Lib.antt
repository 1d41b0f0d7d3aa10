pub mod Faces
pub mod Tree
pub mod Relation
pub mod Items
pub mod Bindings
pub mod Kinds
pub mod Sharing
pub mod Seen
