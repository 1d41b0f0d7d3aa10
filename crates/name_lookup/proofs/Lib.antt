pub mod FoundSteps
pub mod PatternLaws
pub mod AliasLaws
pub mod GroupLaws
pub mod SeenLemmas
