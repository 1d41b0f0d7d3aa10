pub mod Exports
pub mod Standing
pub mod NeedTests
