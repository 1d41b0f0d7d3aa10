pub mod TableLemmas
pub mod GivenLemmas
pub mod KernelLemmas
pub mod FirstLemmas
