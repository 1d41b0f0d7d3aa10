pub mod Words
pub mod Summary
pub mod Inside
pub mod Trial
