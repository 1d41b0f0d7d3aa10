pub mod ModuleInfo
pub mod PlainKeys
pub mod Modinfo
