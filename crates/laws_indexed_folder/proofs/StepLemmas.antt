-- Plans that run no command are closed by the names of the modules that they load.
use Rattle.std.proofs.Common.{◌≡◌, ℕ, suc, true, false, List, [], ◌∷◌, ◌++◌, length, map, Some}
use Rattle.std.proofs.Common.{refl, sym, ap, ◌∙◌, subst, inl, inr, arith}
use Rattle.std.specs.Prelude.{◌||◌, ◌⊎◌, ◌&&◌, ◌==◌, not, All, slice_get}
use Rattle.std.specs.List.{IsDistinct, list_any}
use Rattle.std.specs.Option.{option_map_or}
use Rattle.std.specs.Str.{bytes_eq}
use Rattle.std.proofs.lemmas.Bool.{true≢false, or_cases, or_left, or_right, or_parts}
use Rattle.std.proofs.lemmas.Bool.Decides.{nat_tests}
use Rattle.std.proofs.lemmas.List.Folds.{list_any-append}
use Rattle.std.proofs.lemmas.List.{map-append}
use Rattle.std.proofs.lemmas.List.Elements.{All-head, All-tail}
use Rattle.std.proofs.lemmas.Slice.Eq.{bytes_eq-Decides}
use Rattle.std.proofs.lemmas.Cmp.{nat_list_eq_equiv}
use Rattle.index_format.specs.Map.{Value, KeyValues, values_of}
use Rattle.mod_tree.specs.DependencyLine.{own_path}
use Rattle.symbol_binding.specs.declared.unbound.Unbound.{Unbound}
use Rattle.symbol_binding.specs.Unmet.{vmlinux, collides}
use Rattle.name_table.specs.FirstSeen.{is_among}
use Rattle.name_lookup.specs.Maps.{has_value}
use Rattle.plan_builder.specs.declared.step.PlanStep.{PlanStep}
use Rattle.plan_builder.specs.declared.step.PlanStep.TheVariants.{Insert, Install, Builtin}
use Rattle.plan_sources.specs.Sources.{Sources}
use Rattle.dependency_lines.specs.Modules.{needed_names}
use Rattle.plan_builder.specs.Steps.{plan_steps}
use Rattle.plan_builder.specs.Closed.{first_text, step_module, step_modules, is_at_one, is_there}
use Rattle.plan_builder.specs.Closed.{IsOwnPath, IsAtOwnPath, IsClosedPlan}
use Rattle.plan_builder.proofs.ClosedLemmas.{plans-are-closed}
use Rattle.laws_closed_plans.specs.Members.{Member}
use Rattle.laws_indexed_folder.specs.Index.{lines_of_map}
use Rattle.laws_indexed_folder.specs.Steps.{inserted_name, inserted_names, inserted_path}
use Rattle.laws_indexed_folder.specs.Steps.{inserted_paths, runs_command, AreClosedSteps}
use Rattle.laws_indexed_folder.specs.Steps.{PlansAreClosed}

-- ---- members of lists of names

member-among : (names : List (List ℕ)) (x : List ℕ) → Member x names → is_among names x ≡ true
member-among [] x at = absurd at
member-among (n ∷ names) x (inl is) = or_left _ _ ((bytes_eq-Decides x n).1 (sym is))
member-among (n ∷ names) x (inr later) = or_right _ _ (member-among names x later)

-- ---- without commands the modules of steps are those that they load

same-name : (dep : KeyValues) (step : PlanStep) → runs_command step ≡ false
    → step_module dep step ≡ inserted_name step
same-name dep (Insert name path options) runs = refl
same-name dep (Install name command) runs = absurd (true≢false runs)
same-name dep (Builtin name) runs = refl

same-names : (dep : KeyValues) (steps : List PlanStep) → list_any runs_command steps ≡ false
    → step_modules dep steps ≡ inserted_names steps
same-names dep [] runs = refl
same-names dep (step ∷ steps) runs =
    let w = or_parts (runs_command step) (list_any runs_command steps) runs in
    λ i. same-name dep step w.0 i ++ same-names dep steps w.1 i

-- the step that loads a module, among the steps
record Loads (steps : List PlanStep) (front : List (List ℕ)) (name : List ℕ) : Type 0 where
  pub before : List PlanStep
  pub step : PlanStep
  pub after : List PlanStep
  pub split : steps ≡ before ++ step ∷ after
  pub own : inserted_name step ≡ name ∷ []
  pub earlier : inserted_names before ≡ front

later-load : (first : PlanStep) (steps : List PlanStep) (front : List (List ℕ)) (name : List ℕ)
    → Loads steps front name → Loads (first ∷ steps) (inserted_name first ++ front) name
later-load first steps front name l = record {
  before = first ∷ l.before;
  step = l.step;
  after = l.after;
  split = ap (λ ss. first ∷ ss) l.split;
  own = l.own;
  earlier = ap (λ ns. inserted_name first ++ ns) l.earlier;
}

loads-at : (steps : List PlanStep) (front : List (List ℕ)) (name : List ℕ) (back : List (List ℕ))
    → inserted_names steps ≡ front ++ name ∷ back → Loads steps front name
loads-at [] [] name back e = absurd (let bad = e in cc)
loads-at [] (f ∷ front) name back e = absurd (let bad = e in cc)
loads-at (Insert n path options ∷ steps) [] name back e =
    let own : n ∷ [] ≡ name ∷ [] = cc in
    record {
      before = [];
      step = Insert n path options;
      after = steps;
      split = refl;
      own = own;
      earlier = refl;
    }
loads-at (Insert n path options ∷ steps) (f ∷ front) name back e =
    let head : n ≡ f = cc in
    let rest : inserted_names steps ≡ front ++ name ∷ back = cc in
    subst (λ k. Loads (Insert n path options ∷ steps) (k ∷ front) name) head
    (later-load (Insert n path options) steps front name (loads-at steps front name back rest))
loads-at (Install n command ∷ steps) front name back e =
    later-load (Install n command) steps front name (loads-at steps front name back e)
loads-at (Builtin n ∷ steps) front name back e =
    later-load (Builtin n) steps front name (loads-at steps front name back e)

-- ---- paths

paths-same : (dep : KeyValues) (steps : List PlanStep) → All (IsAtOwnPath dep) steps
    → inserted_paths steps ≡ map (lines_of_map dep).path (inserted_names steps)
paths-same dep [] all = refl
paths-same dep (step ∷ steps) all =
    (λ i. here step (All-head (IsAtOwnPath dep) step steps all) i
    ++ paths-same dep steps (All-tail (IsAtOwnPath dep) step steps all) i)
    ∙ sym (map-append (lines_of_map dep).path (inserted_name step) (inserted_names steps))
  where
    here : (step : PlanStep) → IsAtOwnPath dep step
        → inserted_path step ≡ map (lines_of_map dep).path (inserted_name step)
    here (Insert name path options) own =
        ap (λ p. p ∷ [])
        (sym (ap (λ o. own_path (option_map_or (λ (v : Value). v.1) o [])) own.first ∙ own.own))
    here (Install name command) own = refl
    here (Builtin name) own = refl

-- ---- double lines

module _ (dep : KeyValues) where
  abbrev AreModules : List (List ℕ) → Type 0
  AreModules names = (name : List ℕ) → is_among names name ≡ true → has_value dep name ≡ true

  at-one : (names : List (List ℕ)) (path : List ℕ) → AreModules names
      → is_among (map (lines_of_map dep).path names) path ≡ is_at_one dep names path
  at-one [] path known = refl
  at-one (n ∷ names) path known =
      λ i. here i || at-one names path (λ name h. known name (or_right _ _ h)) i
    where
      here : bytes_eq path (own_path (first_text dep n))
          ≡ (has_value dep n && bytes_eq (own_path (first_text dep n)) path)
      here =
          nat_list_eq_equiv.symm path (own_path (first_text dep n))
          ∙ ap (λ t. t && bytes_eq (own_path (first_text dep n)) path)
          (sym (known n (or_left _ _ ((bytes_eq-Decides n n).1 refl))))

  all-collide : (loaded plan : List (List ℕ)) → AreModules (loaded ++ plan) → AreModules plan
      → (unmet : List Unbound)
      → list_any (collides (is_among (vmlinux ∷ map (lines_of_map dep).path (loaded ++ plan)))
      (is_among (map (lines_of_map dep).path plan))) unmet
      ≡ list_any (collides (is_there dep (loaded ++ plan)) (is_at_one dep plan)) unmet
  all-collide loaded plan all known unmet =
      λ i. list_any
      (collides (λ a. bytes_eq a vmlinux || at-one (loaded ++ plan) a all i)
      (λ a. at-one plan a known i)) unmet

-- ---- names of modules that steps load

zero-not : (n : ℕ) → (suc n == 0) ≡ false
zero-not n = grind (arith, nat_tests)

value-known : (vs : List Value) (v : Value) → slice_get vs 0 ≡ Some v → not (length vs == 0) ≡ true
value-known [] v e = absurd (let bad = e in cc)
value-known (w ∷ vs) v e = ap not (zero-not (length vs))

loads-known : (dep : KeyValues) (steps : List PlanStep) → All (IsAtOwnPath dep) steps
    → (name : List ℕ) → is_among (inserted_names steps) name ≡ true → has_value dep name ≡ true
loads-known dep [] all name h = absurd (true≢false (sym h))
loads-known dep (step ∷ steps) all name h =
    go step (All-head (IsAtOwnPath dep) step steps all)
    (or_cases _ _
    (sym (list_any-append (bytes_eq name) (inserted_name step) (inserted_names steps)) ∙ h))
    (loads-known dep steps (All-tail (IsAtOwnPath dep) step steps all) name)
  where
    here : (n : List ℕ) (path : List ℕ) → IsOwnPath dep n path
        → (bytes_eq name n ≡ true) ⊎ (false ≡ true) → has_value dep name ≡ true
    here n path own (inl is) =
        ap (has_value dep) ((bytes_eq-Decides name n).0 is)
        ∙ value-known (values_of dep n) own.value own.first
    here n path own (inr bad) = absurd (true≢false (sym bad))

    go : (step : PlanStep) → IsAtOwnPath dep step
        → (is_among (inserted_name step) name ≡ true)
        ⊎ (is_among (inserted_names steps) name ≡ true)
        → (is_among (inserted_names steps) name ≡ true → has_value dep name ≡ true)
        → has_value dep name ≡ true
    go (Insert n path options) own (inl is) ih = here n path own (or_cases _ _ is)
    go (Install n command) own (inl is) ih = absurd (true≢false (sym is))
    go (Builtin n) own (inl is) ih = absurd (true≢false (sym is))
    go step own (inr later) ih = ih later

both-known : (dep : KeyValues) (loaded plan : List (List ℕ)) → AreModules dep loaded
    → AreModules dep plan → AreModules dep (loaded ++ plan)
both-known dep loaded plan listed known name h =
    go (or_cases _ _ (sym (list_any-append (bytes_eq name) loaded plan) ∙ h))
  where
    go : (is_among loaded name ≡ true) ⊎ (is_among plan name ≡ true) → has_value dep name ≡ true
    go (inl is) = listed name is
    go (inr is) = known name is

-- ---- all together

module _ (s : Sources) (steps : List PlanStep) (c : IsClosedPlan s steps)
    (runs : list_any runs_command steps ≡ false) where
  same : step_modules s.maps.dep steps ≡ inserted_names steps
  same = same-names s.maps.dep steps runs

  at-steps : (x : List ℕ) → Member x (inserted_names steps)
      → is_among (step_modules s.maps.dep steps) x ≡ true
  at-steps x at = ap (λ ns. is_among ns x) same ∙ member-among (inserted_names steps) x at

  behind : (before : List (List ℕ)) (x : List ℕ) (after : List (List ℕ))
      → inserted_names steps ≡ before ++ x ∷ after → (y : List ℕ)
      → Member y ((lines_of_map s.maps.dep).line x) → is_among (s.loaded ++ before) y ≡ true
  behind before x after split y at =
      let l = loads-at steps before x after split in
      let parts
      = or_parts (list_any runs_command l.before) (list_any runs_command (l.step ∷ l.after))
      (sym (list_any-append runs_command l.before (l.step ∷ l.after))
      ∙ ap (list_any runs_command) (sym l.split) ∙ runs) in
      let own = or_parts (runs_command l.step) (list_any runs_command l.after) parts.1 in
      let here : is_among (step_module s.maps.dep l.step) x ≡ true
      = ap (λ ns. is_among ns x) (same-name s.maps.dep l.step own.0 ∙ l.own)
      ∙ or_left _ _ ((bytes_eq-Decides x x).1 refl) in
      ap (λ ns. is_among (s.loaded ++ ns) y)
      (sym (same-names s.maps.dep l.before parts.0 ∙ l.earlier))
      ∙ c.behind l.before l.step l.after l.split x here y
      (member-among (needed_names (first_text s.maps.dep x)) y at)

  steps-closed : AreModules s.maps.dep s.loaded → AreClosedSteps s steps
  steps-closed listed =
      let known = loads-known s.maps.dep steps c.paths in
      record {
        closed = record {
          distinct = subst (IsDistinct bytes_eq) same c.distinct;
          unlisted = λ x at. c.unloaded x (at-steps x at);
          behind = behind;
          alone =
              all-collide s.maps.dep s.loaded (inserted_names steps)
              (both-known s.maps.dep s.loaded (inserted_names steps) listed known) known s.unmet
              ∙ ap (λ ns. list_any (collides (is_there s.maps.dep (s.loaded ++ ns))
              (is_at_one s.maps.dep ns)) s.unmet) (sym same)
              ∙ c.alone;
          clear = λ x at. c.clear x (at-steps x at);
        };
        own_paths = c.paths;
        paths = paths-same s.maps.dep steps c.paths;
      }

pub plans-closed : PlansAreClosed
plans-closed s request none runs listed =
    steps-closed s (plan_steps s request) (plans-are-closed s request none) runs listed
