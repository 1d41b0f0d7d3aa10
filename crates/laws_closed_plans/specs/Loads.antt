-- Loads of modules, one after the other.
use Rattle.std.specs.Prelude.{◌≡◌, ℕ, List, [], ◌∷◌, ◌++◌, Result, Ok}
use Rattle.module_facts.specs.declared.module.Module.{Module}
use Rattle.load_fault.specs.declared.fault.LoadFault.{LoadFault}
use Rattle.load_fault.specs.declared.fault.LoadFault.TheVariants.{RegionFull, Overflow}
use Rattle.model_loader.specs.Machine.{Machine}
use Rattle.model_loader.specs.Step.{step}
pub use Rattle.model_loader.specs.Chain.{unless_refused}

-- The machine after modules were loaded one after the other, or the first refusal.
abbrev pub load_all : Machine → List Module → Result Machine LoadFault
load_all machine [] = Ok machine
load_all machine (m ∷ ms) = unless_refused (λ next. load_all next ms) (step machine m)

-- The modules after others are loaded into the machine that the others leave.
abbrev pub LoadsFollow : Type 0
LoadsFollow =
    (machine : Machine) (before after : List Module)
    → load_all machine (before ++ after)
    ≡ unless_refused (λ next. load_all next after) (load_all machine before)

-- A refusal only for the place of a module: no gap of the region has room, or a word doesn't fit
-- there.
pub data IsPlaceFault : LoadFault → Type 0 where
  full : (pages : ℕ) → IsPlaceFault (RegionFull pages)
  overflow : (section entry : ℕ) → IsPlaceFault (Overflow section entry)
