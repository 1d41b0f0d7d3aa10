pub mod Parameters
pub mod Show
pub mod Tables
