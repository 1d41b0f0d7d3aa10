-- Modules that are taken out in turn, each below the one before it.
use Rattle.std.proofs.Common.{◌≡◌, ◌≤◌, ◌∙◌, ℕ, List, [], ◌∷◌, Option, Some, sym, ap, subst, arith}
use Rattle.std.proofs.Common.{length, map}
use Rattle.std.specs.Prelude.{Ok}
use Rattle.std.specs.List.{IsDistinct}
use Rattle.std.specs.Str.{bytes_eq}
use Rattle.std.proofs.lemmas.List.Edits.{length-remove}
use Rattle.model_loader.specs.Machine.{Machine}
use Rattle.model_loader.specs.Sound.{entry_names}
use Rattle.model_loader.specs.Use.{AreUnused, name_at, without}
use Rattle.model_unload.specs.Below.{IsUnusedBelow}
use Rattle.model_unload.specs.Unload.{AreFallingFrom, place_of, unloaded}
use Rattle.model_unload.proofs.NameLemmas.{distinct-remove, names-stay, place-is, unloaded-unused}
use Rattle.remove_plan.specs.declared.step.RemoveStep.{RemoveStep}
use Rattle.command_remove.specs.Remove.{step_name}
use Rattle.command_remove.specs.Taken.{CanBeTakenOut}
use Rattle.command_remove.proofs.RemoveSteps.{same-machine}

same-place : (j k : ℕ) → ◌≡◌ {A = Option ℕ} (Some j) (Some k) → j ≡ k
same-place j k is = cc

first-by : (machine : Machine) (end : ℕ) (name : List ℕ) (names : List (List ℕ)) (ks : List ℕ)
    → name ∷ names ≡ map (name_at machine) ks → AreFallingFrom end ks → end ≤ length machine.entries
    → AreUnused machine ks → IsDistinct bytes_eq (entry_names machine)
    → IsUnusedBelow machine end name
first-by machine end name names [] are fall within unused distinct =
    absurd (let e : ◌≡◌ {A = List (List ℕ)} (name ∷ names) [] = are in cc)
first-by machine end name names (k ∷ ks) are fall within unused distinct =
    let here : name ≡ name_at machine k
    = let e : name ∷ names ≡ name_at machine k ∷ map (name_at machine) ks
    = are in cc in
    record {
      place = k;
      found
          = ap (place_of machine) here
          ∙ place-is machine k distinct (omega (arith, fall.0, within));
      below = fall.0;
      within = within;
      unused = unused.0;
      names = distinct;
    }

-- the first of some modules is unused at its turn
pub first-out : (machine : Machine) (end : ℕ) (step : RemoveStep) (rest : List RemoveStep)
    → CanBeTakenOut machine end (step ∷ rest) → IsUnusedBelow machine end (step_name step)
first-out machine end step rest out =
    first-by machine end (step_name step) (map step_name rest) out.places out.named out.falling
    out.within out.unused out.names

rest-by : (machine : Machine) (end : ℕ) (name : List ℕ) (rest : List RemoveStep) (k : ℕ)
    (ks : List ℕ)
    → name ∷ map step_name rest ≡ name_at machine k ∷ map (name_at machine) ks
    → AreFallingFrom end (k ∷ ks) → end ≤ length machine.entries → AreUnused machine (k ∷ ks)
    → IsDistinct bytes_eq (entry_names machine) → CanBeTakenOut (without machine k) k rest
rest-by machine end name rest k ks are fall within unused distinct =
    let others : map step_name rest ≡ map (name_at machine) ks = cc in
    record {
      places = ks;
      named = others ∙ names-stay machine k k ks (omega arith) fall.1;
      falling = fall.1;
      within
          = omega (
            arith,
            length-remove machine.entries k (omega (arith, fall.0, within)),
            fall.0,
            within,
          );
      unused = unused.1;
      names = distinct-remove machine.entries k distinct;
    }

-- and after it the others can be taken out, below its place
pub rest-out : (machine after : Machine) (end place : ℕ) (step : RemoveStep)
    (rest : List RemoveStep)
    → CanBeTakenOut machine end (step ∷ rest) → place_of machine (step_name step) ≡ Some place
    → unloaded machine (step_name step) ≡ Ok after → CanBeTakenOut after place rest
unfolding first-by
rest-out machine after end place step rest out found took =
    by out.places out.named out.falling out.unused
  where
    by : (ks : List ℕ) → step_name step ∷ map step_name rest ≡ map (name_at machine) ks
        → AreFallingFrom end ks → AreUnused machine ks → CanBeTakenOut after place rest
    by [] are fall unused
        = absurd
        (let e : ◌≡◌ {A = List (List ℕ)} (step_name step ∷ map step_name rest) [] = are in cc)
    by (k ∷ ks) are fall unused =
        let first
        = first-by machine end (step_name step) (map step_name rest) (k ∷ ks) are fall
        out.within unused out.names in
        let at : first.place ≡ place = same-place first.place place (sym first.found ∙ found) in
        let is : without machine first.place ≡ after =
        same-machine (without machine first.place) after
        (sym (unloaded-unused machine (step_name step) first.place first.found first.unused)
        ∙ took) in
        subst (λ (p : ℕ). CanBeTakenOut after p rest) at
        (subst (λ (m : Machine). CanBeTakenOut m k rest) is
        (rest-by machine end (step_name step) rest k ks are fall out.within unused
        out.names))
