-- Refusals and steps, by their tests.
use Rattle.std.proofs.Common.{◌≡◌, ◌∙◌, ◌⊎◌, inl, inr, List, [], ◌∷◌, ◌++◌, Option, Some, None}
use Rattle.std.proofs.Common.{refl, sym, ap}
use Rattle.std.specs.Prelude.{Ok, Err}
use Rattle.std.specs.Option.{option_or}
use Rattle.km_names.specs.First.{first}
use Rattle.module_facts.specs.declared.module.Module.{Module}
use Rattle.model_loader.specs.declared.entry.Entry.{Entry}
use Rattle.load_fault.specs.declared.fault.LoadFault.{LoadFault}
use Rattle.load_fault.specs.declared.fault.LoadFault.TheVariants.{Memory}
use Rattle.model_loader.specs.Machine.{Machine}
use Rattle.model_loader.specs.Step.{entry_at, module_base, name_tests, placement_tests, refusal}
use Rattle.model_loader.specs.Step.{step, with_entry}

pub first-append : {X : Type 0} (xs ys : List (Option X))
    → first (xs ++ ys) ≡ option_or (first xs) (first ys)
first-append [] ys = refl
first-append (None ∷ xs) ys = first-append xs ys
first-append (Some x ∷ xs) ys = refl

pub first-alone : {X : Type 0} (o : Option X) → first (o ∷ None ∷ []) ≡ o
first-alone None = refl
first-alone (Some x) = refl

module _ (machine : Machine) (m : Module) where
  split : refusal machine m
      ≡ option_or (first (name_tests machine m.facts)) (first (placement_tests machine m))
  unfolding refusal
  split = first-append (name_tests machine m.facts) (placement_tests machine m)

  pub refusal-name : (e : LoadFault) → (e ≡ Memory) ⊎ (first (name_tests machine m.facts) ≡ Some e)
      → (e ≡ Memory) ⊎ (refusal machine m ≡ Some e)
  refusal-name e (inl memory) = inl memory
  refusal-name e (inr is)
      = inr (split ∙ ap (λ o. option_or o (first (placement_tests machine m))) is)

  pub refusal-place : (e : LoadFault) → first (name_tests machine m.facts) ≡ None
      → (e ≡ Memory) ⊎ (first (placement_tests machine m) ≡ Some e)
      → (e ≡ Memory) ⊎ (refusal machine m ≡ Some e)
  refusal-place e none (inl memory) = inl memory
  refusal-place e none (inr is)
      = inr (split ∙ ap (λ o. option_or o (first (placement_tests machine m))) none ∙ is)

  pub refusal-none : first (name_tests machine m.facts) ≡ None
      → first (placement_tests machine m) ≡ None → refusal machine m ≡ None
  refusal-none none is = split ∙ ap (λ o. option_or o (first (placement_tests machine m))) none ∙ is

  pub step-fault : (e : LoadFault) → (e ≡ Memory) ⊎ (refusal machine m ≡ Some e)
      → (e ≡ Memory) ⊎ (step machine m ≡ Err e)
  unfolding step
  step-fault e (inl memory) = inl memory
  step-fault e (inr is) = inr (rw is refl)

  pub step-passed : (e : Entry) (new : Machine) → refusal machine m ≡ None
      → e ≡ entry_at machine m (module_base machine m) → new ≡ with_entry machine e
      → step machine m ≡ Ok new
  unfolding step
  step-passed e new none entry is = rw none (sym (ap Ok (is ∙ ap (with_entry machine) entry)))

  pub refusal-split : refusal machine m ≡ None
      → (first (name_tests machine m.facts) ≡ None) × (first (placement_tests machine m) ≡ None)
  refusal-split none
      = both (first (name_tests machine m.facts)) (first (placement_tests machine m))
      (sym split ∙ none)
    where
      both : (a b : Option LoadFault) → option_or a b ≡ None → (a ≡ None) × (b ≡ None)
      both None b is = (refl, is)
      both (Some e) b is = absurd cc
