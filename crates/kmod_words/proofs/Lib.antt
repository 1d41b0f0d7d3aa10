pub mod WordsLemmas
pub mod ArgumentLemmas
pub mod DecimalLemmas
pub mod MatchLemmas
pub mod RequestLemmas
pub mod TrialLemmas
pub mod NodeRequests
