-- The first obstacle of a request, test by test, and the steps of its plan.
use Rattle.std.proofs.Common.{◌≡◌, ◌<◌, subst, List, [], ◌∷◌, ◌++◌, length, map, drop, Option, Some}
use Rattle.std.proofs.Common.{None, sym, ap, ◌∙◌, ℕ, inl, inr}
use Rattle.std.specs.Prelude.{◌⊎◌}
use Rattle.std.specs.List.{find}
use Rattle.std.specs.Option.{option_map}
use Rattle.std.proofs.lemmas.List.{length-map}
use Rattle.std.proofs.Math.Seq.{drop-append_seam}
use Rattle.km_names.specs.First.{first}
use Rattle.name_lookup.specs.declared.found.Found.{Found}
use Rattle.plan_order.specs.Lists.{among}
use Rattle.plan_order.specs.Plan.{with_groups}
use Rattle.plan_order.specs.Answer.{IsPlan}
use Rattle.plan_order.specs.declared.plan.GroupedOrder.{GroupedOrder}
use Rattle.dependency_lines.specs.declared.fault.LineFault.{LineFault}
use Rattle.dependency_lines.specs.declared.fault.LineFault.TheVariants as faults
use Rattle.dependency_lines.specs.Modules.{bad_name, places_of}
use Rattle.planned_modules.specs.declared.fault.ResolveFault.{ResolveFault}
use Rattle.planned_modules.specs.declared.fault.ResolveFault.TheVariants as unresolved
use Rattle.plan_builder.specs.declared.request.Request.{Request}
use Rattle.plan_builder.specs.declared.obstacle.Obstacle.{Obstacle}
use Rattle.plan_builder.specs.declared.obstacle.Obstacle.TheVariants.{Memory}
use Rattle.plan_builder.specs.Answers.{line_obstacle, name_obstacle}
use Rattle.plan_sources.specs.Sources.{Sources, modules}
use Rattle.planned_modules.specs.Needs.{before, after, unloaded}
use Rattle.planned_modules.specs.Members.{unfound, asked, is_unfound, is_unknown, all_names}
use Rattle.plan_builder.specs.Requested.{found_for}
use Rattle.plan_builder.specs.Steps.{module_step, later, plan_steps}
use Rattle.plan_builder.specs.Ends.{steps_by}
use Rattle.plan_builder.specs.Obstacles.{PlanObstacle, as_obstacle, bad_dep_line, not_found}
use Rattle.plan_builder.specs.Obstacles.{plan_tests, obstacle_of}
use Rattle.plan_builder.proofs.Answering.{first-here}
use Rattle.plan_builder.proofs.StepLaws.{steps-groups, plan-front}
use Rattle.plan_builder.proofs.StepPlaces.{steps_from, plan-placed}

-- a fault of a name is the obstacle of that name
pub name-fault : (fault : ResolveFault) (name : Option (List ℕ))
    → (fault ≡ unresolved.Memory) ⊎ (option_map unfound name ≡ Some fault)
    → (name_obstacle fault ≡ Memory)
    ⊎ (option_map as_obstacle (option_map not_found name) ≡ Some (name_obstacle fault))
name-fault fault name (inl e) = inl (ap name_obstacle e)
name-fault fault None (inr e) = absurd (let bad = e in cc)
name-fault fault (Some name) (inr e) =
    let same : unfound name ≡ fault = cc in inr (ap (λ f. Some (name_obstacle f)) same)

module _ (s : Sources) (request : Request) where
  pub when-bad : (o : Obstacle)
      → option_map as_obstacle (option_map bad_dep_line (bad_name s.maps.dep)) ≡ Some o
      → option_map as_obstacle (obstacle_of s request) ≡ Some o
  unfolding obstacle_of
  when-bad o e = first-here as_obstacle (option_map bad_dep_line (bad_name s.maps.dep)) _ o e

  -- a fault of dependency lines is the first obstacle
  pub when-fault : (fault : LineFault)
      → (fault ≡ faults.Memory) ⊎ (option_map faults.BadLine (bad_name s.maps.dep) ≡ Some fault)
      → (line_obstacle fault ≡ Memory)
      ⊎ (option_map as_obstacle (obstacle_of s request) ≡ Some (line_obstacle fault))
  when-fault fault (inl e) = inl (ap line_obstacle e)
  when-fault fault (inr e) = inr (when-bad (line_obstacle fault) (mapped (bad_name s.maps.dep) e))
    where
      mapped : (o : Option (List ℕ)) → option_map faults.BadLine o ≡ Some fault
          → option_map as_obstacle (option_map bad_dep_line o) ≡ Some (line_obstacle fault)
      mapped None e = absurd (let bad = e in cc)
      mapped (Some name) e
          = let same : faults.BadLine name ≡ fault
          = cc in ap (λ f. Some (line_obstacle f)) same

  module _ (sound : bad_name s.maps.dep ≡ None) where
    pub when-unfound : (o : Obstacle)
        → option_map as_obstacle (option_map not_found (find (is_unfound s) request.names)) ≡ Some o
        → option_map as_obstacle (obstacle_of s request) ≡ Some o
    unfolding obstacle_of
    when-unfound o e =
        ap (λ x. option_map as_obstacle
        (first (option_map bad_dep_line x
        ∷ option_map not_found (find (is_unfound s) request.names)
        ∷ option_map not_found
        (find (is_unknown s request.ignore_install)
        (all_names (found_for s request)))
        ∷ plan_tests s (found_for s request)))) sound
        ∙ first-here as_obstacle (option_map not_found (find (is_unfound s) request.names)) _ o e

    module _ (found : find (is_unfound s) request.names ≡ None) where
      pub when-unknown : (o : Obstacle)
          → option_map as_obstacle
          (option_map not_found
          (find (is_unknown s request.ignore_install)
          (all_names (found_for s request))))
          ≡ Some o
          → option_map as_obstacle (obstacle_of s request) ≡ Some o
      unfolding obstacle_of
      when-unknown o e =
          ap (λ x. option_map as_obstacle
          (first (option_map bad_dep_line x
          ∷ option_map not_found (find (is_unfound s) request.names)
          ∷ option_map not_found
          (find (is_unknown s request.ignore_install)
          (all_names (found_for s request)))
          ∷ plan_tests s (found_for s request)))) sound
          ∙ ap (λ x. option_map as_obstacle
          (first (option_map not_found x
          ∷ option_map not_found
          (find (is_unknown s request.ignore_install) (all_names (found_for s request)))
          ∷ plan_tests s (found_for s request)))) found
          ∙ first-here as_obstacle
          (option_map not_found
          (find (is_unknown s request.ignore_install) (all_names (found_for s request)))) _
          o e

      pub when-known : find (is_unknown s request.ignore_install) (all_names (found_for s request))
          ≡ None
          → (x : Option PlanObstacle) → first (plan_tests s (found_for s request)) ≡ x
          → obstacle_of s request ≡ x
      unfolding obstacle_of
      when-known known x e =
          ap (λ x. first (option_map bad_dep_line x
          ∷ option_map not_found (find (is_unfound s) request.names)
          ∷ option_map not_found
          (find (is_unknown s request.ignore_install) (all_names (found_for s request)))
          ∷ plan_tests s (found_for s request))) sound
          ∙ ap (λ x. first
          (option_map not_found x
          ∷ option_map not_found
          (find (is_unknown s request.ignore_install) (all_names (found_for s request)))
          ∷ plan_tests s (found_for s request))) found
          ∙ ap (λ x. first (option_map not_found x ∷ plan_tests s (found_for s request))) known
          ∙ e

  pub steps-are : (fs : List Found) (p : GroupedOrder) → fs ≡ found_for s request
      → IsPlan (among (before s)) (unloaded s) (after s) (asked s fs) p
      → steps_by s request [] 0 fs p.ends.items p.order.items ≡ plan_steps s request
  steps-are fs p are is =
      let front = plan-front (among (before s)) (unloaded s) (after s) (asked s fs) in
      steps-groups s request [] [] fs p.ends.items p.order.items front.0 (is.order ∙ front.1)
      (is.ends_long ∙ length-map fs (λ (f : Found). places_of (modules s) f.names))
      (λ k l. is.ends k
      (subst (λ n. k < n)
      (sym (length-map fs (λ (f : Found). places_of (modules s) f.names))) l))
      ∙ ap (λ xs. steps_from s request [] [] fs ++ map (module_step s request) xs)
      (sym (ap (drop (length (with_groups (among (before s)) (unloaded s) [] (asked s fs))))
      front.1
      ∙ drop-append_seam (with_groups (among (before s)) (unloaded s) [] (asked s fs))
      front.0))
      ∙ ap (λ gs. steps_from s request [] [] gs ++ map (module_step s request) (later s gs)) are
      ∙ sym (plan-placed s request)
