pub mod FaultLemmas
pub mod FindLemmas
pub mod SoundLemmas
pub mod TimesLemmas
