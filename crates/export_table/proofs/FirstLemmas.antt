-- Lists of tests, of which the first that fails counts.
use Rattle.std.proofs.Common.{◌≡◌, ◌⊎◌, inl, inr, List, ◌∷◌, Option, Some, None, refl}
use Rattle.km_names.specs.First.{first}
use Rattle.load_fault.specs.declared.fault.LoadFault.{LoadFault}
use Rattle.load_fault.specs.declared.fault.LoadFault.TheVariants.{Memory}

-- The first test that fails, after those that pass.
pub fails : (t : Option LoadFault) (rest : List (Option LoadFault)) (e : LoadFault)
    → (e ≡ Memory) ⊎ (t ≡ Some e) → (e ≡ Memory) ⊎ (first (t ∷ rest) ≡ Some e)
fails t rest e (inl memory) = inl memory
fails t rest e (inr is) = inr (rw is refl)

pub later : (t : Option LoadFault) (rest : List (Option LoadFault)) (e : LoadFault) → t ≡ None
    → (e ≡ Memory) ⊎ (first rest ≡ Some e) → (e ≡ Memory) ⊎ (first (t ∷ rest) ≡ Some e)
later t rest e none (inl memory) = inl memory
later t rest e none (inr is) = inr (rw none is)

pub passes : (t : Option LoadFault) (rest : List (Option LoadFault)) → t ≡ None → first rest ≡ None
    → first (t ∷ rest) ≡ None
passes t rest none is = rw none is
