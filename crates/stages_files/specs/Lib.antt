pub mod ModuleFile
pub mod IndexFile
pub mod KernelModules
pub mod KernelTable
pub mod Configuration
