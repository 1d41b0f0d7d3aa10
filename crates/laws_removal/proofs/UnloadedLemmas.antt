-- The steps of a removal, by names.
use Rattle.std.proofs.Common.{◌≡◌, ◌≤◌, ◌<◌, ◌∙◌, inl, inr, ℕ, Bool, true, List, [], ◌∷◌, ap, arith}
use Rattle.std.proofs.Common.{length, subst}
use Rattle.std.specs.Prelude.{◌&&◌, Ok, is_none, nat_eq, remove}
use Rattle.std.specs.List.{list_any}
use Rattle.std.proofs.lemmas.List.Edits.{length-remove}
use Rattle.module_facts.specs.declared.module.Module.{Module}
use Rattle.std.proofs.lemmas.Bool.{false≢true, or_cases, or_left}
use Rattle.std.proofs.lemmas.Bool.Decides.{nat_tests}
use Rattle.model_loader.specs.Machine.{Machine}
use Rattle.model_loader.specs.Sound.{IsSound}
use Rattle.model_loader.specs.Use.{AreUnused, binds, places, without, without_all}
use Rattle.model_loader.proofs.UseLemmas.{sound-without}
use Rattle.model_unload.specs.Unload.{AreFallingFrom}
use Rattle.model_unload.proofs.NameLemmas.{unused-are-unloaded, fall-less}
use Rattle.remove_plan.specs.Removal.{AreFalling, among, items_outside, removed_by, user_outside}
use Rattle.remove_plan.proofs.RemovalLemmas.{asked-inside, both-true, removed-are-least}
use Rattle.remove_plan.proofs.RemovalLemmas.{removed-why, younger}
use Rattle.laws_removal.specs.Removals.{RemovalsAreUnloaded, RemovalsStaySound}
use Rattle.laws_removal.proofs.PassLemmas.{left-items, remove_all, removals-pass, user-inside}

falling-from : (n : ℕ) (ks : List ℕ) → AreFalling ks → ((u : ℕ) → among ks u ≡ true → u < n)
    → AreFallingFrom n ks
falling-from n [] fall small = tt
falling-from n (k ∷ ks) fall small = (
  small k (or_left (nat_eq k k) (among ks k) (grind (arith, nat_tests))),
  falling-from k ks fall.1 fall.0,
)

pub some-passes : (p : ℕ → Bool) (ks : List ℕ) → list_any p ks ≡ true → (k : ℕ) × (p k ≡ true)
some-passes p [] is = absurd (false≢true is)
some-passes p (k ∷ ks) is =
    elim (or_cases (p k) (list_any p ks) is)
    [ inl here ↦ (k, here) | inr later ↦ some-passes p ks later ]

removed-inside : (machine : Machine) (names : List (List ℕ)) (u : ℕ)
    → among (removed_by machine names) u ≡ true → u < length machine.entries
removed-inside machine names u member =
    let ks = removed_by machine names in
    elim (removed-why machine names u member) [
      | inl in_r ↦ asked-inside machine names u in_r
      | inr is_so ↦
          let user
          = some-passes (λ v. among ks v && binds machine v u) (places machine)
          (both-true (list_any (λ v. among ks v && binds machine v u) (places machine))
          (is_none (user_outside machine (among ks) u)) is_so).0 in
          let used = (both-true (among ks user.0) (binds machine user.0 u) user.1).1 in
          omega (arith, younger machine user.0 u used, user-inside machine user.0 u used)
    ]

pub removed-fall : (machine : Machine) (names : List (List ℕ))
    → AreFallingFrom (length machine.entries) (removed_by machine names)
removed-fall machine names =
    falling-from (length machine.entries) (removed_by machine names)
    (removed-are-least machine names).falling (removed-inside machine names)

pub removals-are-unloaded : RemovalsAreUnloaded
removals-are-unloaded machine names distinct free =
    let ks = removed_by machine names in
    let passed = removals-pass machine names free in
    unused-are-unloaded machine ks distinct (removed-fall machine names) passed.0 ∙ ap Ok passed.1

-- A sound machine stays sound.
sound-all : (machine : Machine) (ms : List Module) (ks : List ℕ)
    → AreFallingFrom (length machine.entries) ks → AreUnused machine ks → IsSound machine ms
    → IsSound (without_all machine ks) (remove_all ms ks)
sound-all machine ms [] fall unused sound = sound
sound-all machine ms (k ∷ ks) fall unused sound =
    sound-all (without machine k) (remove ms k) ks
    (fall-less k (length (remove machine.entries k)) ks
    (omega (arith, length-remove machine.entries k fall.0, fall.0)) fall.1)
    unused.1 (sound-without machine ms k fall.0 unused.0 sound)

pub removals-stay-sound : RemovalsStaySound
removals-stay-sound machine ms names sound free =
    let ks = removed_by machine names in
    let passed = removals-pass machine names free in
    let kept : IsSound (without_all machine ks) (remove_all ms ks)
    = sound-all machine ms ks (removed-fall machine names) passed.0 sound in
    subst (λ (m : Machine). IsSound m (items_outside (among ks) 0 ms)) passed.1
    (subst (IsSound (without_all machine ks))
    (left-items ms ks (removed-are-least machine names).falling) kept)
