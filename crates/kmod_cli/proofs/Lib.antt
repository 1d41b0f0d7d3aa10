mod ActsLeft
mod LoadsLeft
mod CameLemmas
mod HeadlineLaw
mod PlansLaw
mod SaidLeft
mod TakesBackLaw
mod IndexLeft
mod IndexesLaw
mod HalvesLaw
mod ExtraLaw
mod LookupsLaw
pub mod CommandSteps
