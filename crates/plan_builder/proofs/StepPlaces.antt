-- The steps of requested names, one name after another.
use Rattle.std.proofs.Common.{◌≡◌, ℕ, ◌+◌, List, [], ◌∷◌, ◌++◌, length, take, map, refl, sym, ap}
use Rattle.std.proofs.Common.{◌∙◌, append_assoc, arith}
use Rattle.std.specs.Prelude.{slice_get, Some}
use Rattle.std.specs.List.{flat_map, range_with_len}
use Rattle.std.specs.Option.{option_map_or}
use Rattle.std.proofs.lemmas.List.{append-nil, length-append, map-append}
use Rattle.std.proofs.lemmas.List.Sums.{fold-append}
use Rattle.std.proofs.lemmas.Grind.{flat_map-append}
use Rattle.std.proofs.Math.Seq.{take-append_seam}
use Rattle.name_lookup.specs.declared.found.Found.{Found}
use Rattle.plan_order.specs.Plan.{group, with_group, with_groups}
use Rattle.plan_order.specs.Lists.{among}
use Rattle.dependency_lines.specs.Modules.{places_of}
use Rattle.plan_builder.specs.declared.request.Request.{Request}
use Rattle.plan_builder.specs.declared.step.PlanStep.{PlanStep}
use Rattle.plan_sources.specs.Sources.{Sources, modules}
use Rattle.planned_modules.specs.Needs.{before, unloaded}
use Rattle.planned_modules.specs.Members.{asked, all_names}
use Rattle.plan_builder.specs.Requested.{found_for}
use Rattle.plan_builder.specs.Steps.{own_steps, module_step, done_after, steps_of, steps_at}
use Rattle.plan_builder.specs.Steps.{found_steps, later, plan_steps}

-- The steps of some requested names, after the names and modules of the names before them. No
-- public meaning rests on it.
abbrev pub steps_from : Sources → Request → List (List ℕ) → List ℕ → List Found → List PlanStep
steps_from s request earlier done [] = []
steps_from s request earlier done (f ∷ more) =
    own_steps s request earlier f.names
    ++ (map (module_step s request)
    (group (among (before s)) (unloaded s) done (places_of (modules s) f.names))
    ++ steps_from s request (earlier ++ f.names)
    (with_group (among (before s)) (unloaded s) done (places_of (modules s) f.names)) more)

-- what stands in the middle
at-middle : (front : List Found) (f : Found) (back : List Found)
    → slice_get (front ++ f ∷ back) (length front) ≡ Some f
at-middle [] f back = refl
at-middle (g ∷ front) f back = at-middle front f back

module _ (s : Sources) (request : Request) where
  -- one more name
  names-more : (front : List Found) (f : Found)
      → all_names (front ++ f ∷ []) ≡ all_names front ++ f.names
  names-more front f =
      flat_map-append (λ (g : Found). g.names) front (f ∷ [])
      ∙ ap (λ ns. all_names front ++ ns) (append-nil f.names)

  done-more : (front : List Found) (f : Found)
      → done_after s (front ++ f ∷ [])
      ≡ with_group (among (before s)) (unloaded s) (done_after s front)
      (places_of (modules s) f.names)
  done-more front f =
      ap (with_groups (among (before s)) (unloaded s) [])
      (map-append (λ (g : Found). places_of (modules s) g.names) front (f ∷ []))
      ∙ fold-append (with_group (among (before s)) (unloaded s)) [] (asked s front)
      (places_of (modules s) f.names ∷ [])

  placed-after : (front back : List Found)
      → flat_map (steps_at s request (front ++ back)) (range_with_len (length front) (length back))
      ≡ steps_from s request (all_names front) (done_after s front) back
  placed-after front [] = refl
  placed-after front (f ∷ fs) =
      let own = own_steps s request (all_names front) f.names in
      let here
      = map (module_step s request)
      (group (among (before s)) (unloaded s) (done_after s front)
      (places_of (modules s) f.names)) in
      let first : steps_at s request (front ++ f ∷ fs) (length front)
      ≡ own_steps s request (all_names front) f.names
      ++ map (module_step s request)
      (group (among (before s)) (unloaded s) (done_after s front)
      (places_of (modules s) f.names))
      =
      ap (λ o. option_map_or (steps_of s request (take (length front) (front ++ f ∷ fs))) o [])
      (at-middle front f fs)
      ∙ ap (λ earlier. steps_of s request earlier f) (take-append_seam front (f ∷ fs)) in
      let next : length front + 1 ≡ length (front ++ f ∷ [])
      = omega (arith, length-append front (f ∷ [])) in
      let rest : flat_map (steps_at s request (front ++ f ∷ fs))
      (range_with_len (length front + 1) (length fs))
      ≡ steps_from s request (all_names front ++ f.names)
      (with_group (among (before s)) (unloaded s) (done_after s front)
      (places_of (modules s) f.names)) fs
      =
      (λ i. flat_map (steps_at s request (sym (append_assoc front (f ∷ []) fs) i))
      (range_with_len (next i) (length fs)))
      ∙ placed-after (front ++ f ∷ []) fs
      ∙ (λ i. steps_from s request (names-more front f i) (done-more front f i) fs) in
      (λ i. first i ++ rest i)
      ∙ append_assoc own here
      (steps_from s request (all_names front ++ f.names)
      (with_group (among (before s)) (unloaded s) (done_after s front)
      (places_of (modules s) f.names)) fs)

  pub steps-placed : (fs : List Found) → found_steps s request fs ≡ steps_from s request [] [] fs
  steps-placed fs = placed-after [] fs

  pub plan-placed : plan_steps s request
      ≡ steps_from s request [] [] (found_for s request)
      ++ map (module_step s request) (later s (found_for s request))
  unfolding plan_steps
  plan-placed =
      ap (λ steps. steps ++ map (module_step s request) (later s (found_for s request)))
      (steps-placed (found_for s request))
