pub mod Finds
pub mod Marks
pub mod Repeats
pub mod RuleLaws
