pub mod StaticNodes
