-- Plans without an obstacle are closed.
use Rattle.std.proofs.Common.{◌≡◌, ℕ, ◌<◌, Bool, true, false, eqb, List, [], ◌∷◌, ◌++◌, length}
use Rattle.std.proofs.Common.{take, map, get_or, Option, Some, None, refl, sym, ap, ◌∙◌, subst, inl}
use Rattle.std.proofs.Common.{inr, arith}
use Rattle.std.specs.Prelude.{◌||◌, ◌⊎◌, ◌&&◌, not, is_some}
use Rattle.std.specs.List.{IsDistinct, list_any, list_all}
use Rattle.std.specs.Str.{bytes_eq}
use Rattle.std.proofs.lemmas.Bool.{true≢false, and_parts, or_cases, or_left, eq-eqb, not-true}
use Rattle.std.proofs.lemmas.Bool.{not_from_false}
use Rattle.std.proofs.lemmas.List.Folds.{list_any-append, list_any_at}
use Rattle.std.proofs.lemmas.Grind.{flat_map-append}
use Rattle.std.proofs.lemmas.Slice.Eq.{bytes_eq-Decides}
use Rattle.std.proofs.Math.Bool.{or_comm}
use Rattle.km_names.specs.First.{first}
use Rattle.mod_tree.specs.DependencyLine.{own_path}
use Rattle.index_format.specs.Listing.{KeyValue}
use Rattle.symbol_binding.specs.Unmet.{vmlinux, belongs, collides}
use Rattle.name_table.specs.FirstSeen.{is_among}
use Rattle.name_lookup.specs.Maps.{has_value}
use Rattle.relation_order.specs.Sets.{has, below}
use Rattle.relation_order.proofs.Lists.{has-range}
use Rattle.relation_order.proofs.Saturation.{kept, keeps}
use Rattle.relation_order.proofs.ReachedLaws.{passing, any-from_has}
use Rattle.relation_order.proofs.Restricted.{same-tests}
use Rattle.plan_order.specs.Lists.{among}
use Rattle.plan_order.proofs.PlanLaws.{plan-members, plan-distinct, plan-after}
use Rattle.plan_order.proofs.Complete.{plan-is_planned}
use Rattle.plan_builder.specs.declared.request.Request.{Request}
use Rattle.plan_builder.specs.declared.step.PlanStep.{PlanStep}
use Rattle.dependency_lines.specs.Modules.{bad_name, name_at, line_at, path_at, place_of, places_of}
use Rattle.dependency_lines.specs.Modules.{needed_names, line_places}
use Rattle.plan_sources.specs.Sources.{Sources, modules}
use Rattle.planned_modules.specs.Needs.{before, after, unloaded}
use Rattle.planned_modules.specs.Members.{asked, planned}
use Rattle.plan_builder.specs.Requested.{found_for}
use Rattle.plan_builder.specs.Steps.{plan_steps}
use Rattle.plan_builder.specs.Obstacles.{is_path_of, stands, plan_tests, obstacle_of}
use Rattle.plan_builder.specs.Closed.{first_text, step_module, step_modules, is_at_one, is_there}
use Rattle.plan_builder.specs.Closed.{IsClosedPlan}
use Rattle.plan_builder.proofs.Answering.{unloaded-low}
use Rattle.plan_builder.proofs.ClearLines.{clear-lines, alone-lines}
use Rattle.dependency_lines.proofs.Firsts.{has-modules}
use Rattle.plan_sources.proofs.Inside.{has-append, position-low}
use Rattle.dependency_lines.proofs.Keys.{place-own, place-name}
use Rattle.plan_builder.proofs.PlaceNames.{from-name, to-name, parted, distinct-names}
use Rattle.plan_builder.proofs.StepModules.{order, plan-names, plan-paths}
use Rattle.plan_builder.proofs.ModuleLines.{line-own, at-names, at-loaded, has-places, one-name}
use Rattle.plan_builder.proofs.ModuleLines.{line-needs, own}
use Rattle.plan_builder.proofs.PlanTests.{sound-lines, lines-none}

among-all : (p : List ℕ → Bool) (names : List (List ℕ)) (name : List ℕ) → list_all p names ≡ true
    → is_among names name ≡ true → p name ≡ true
among-all p [] name all h = absurd (true≢false (sym h))
among-all p (n ∷ names) name all h =
    let w = and_parts _ _ all in go w.0 w.1 (or_cases _ _ h) (among-all p names name)
  where
    go : p n ≡ true → list_all p names ≡ true
        → (bytes_eq name n ≡ true) ⊎ (is_among names name ≡ true)
        → (list_all p names ≡ true → is_among names name ≡ true → p name ≡ true) → p name ≡ true
    go here rest (inl e) ih = ap p ((bytes_eq-Decides name n).0 e) ∙ here
    go here rest (inr m) ih = ih rest m

any-same : (p : ℕ → Bool) (xs ys : List ℕ) → ((x : ℕ) → has xs x ≡ has ys x)
    → list_any p xs ≡ list_any p ys
any-same p xs ys same =
    same-tests _ _
    (λ h. let w = passing p xs h in any-from_has p ys w.0 (sym (same w.0) ∙ w.1) w.2)
    (λ h. let w = passing p ys h in any-from_has p xs w.0 (same w.0 ∙ w.1) w.2)

or-parted : (a b c : Bool) → (a || (b || c)) ≡ ((a || b) || c)
or-parted true b c = refl
or-parted false b c = refl

module _ (s : Sources) (request : Request) where
  order-low : (y : ℕ) → has (order s request) y ≡ true → y < length (modules s)
  order-low y h =
      unloaded-low s y
      (plan-members (among (before s)) (unloaded s) (after s) (asked s (found_for s request)) y
      h)

  names : step_modules s.maps.dep (plan_steps s request)
      ≡ map (name_at (modules s)) (order s request)
  names = plan-names s request order-low

  -- what a name of the plan's modules is the name of
  at-step : (name : List ℕ) → is_among (step_modules s.maps.dep (plan_steps s request)) name ≡ true
      → (x : ℕ) × (has (order s request) x ≡ true) × (name_at (modules s) x ≡ name)
  at-step name h =
      from-name (name_at (modules s)) (order s request) name
      (sym (ap (λ ns. is_among ns name) names) ∙ h)

  one-place : (x y : ℕ) → has (order s request) x ≡ true → has (order s request) y ≡ true
      → name_at (modules s) x ≡ name_at (modules s) y → x ≡ y
  one-place x y h k e =
      let same : ◌≡◌ {A = Option ℕ} (Some x) (Some y)
      = sym (place-own s.maps.dep x (order-low x h)) ∙ ap (place_of (modules s)) e
      ∙ place-own s.maps.dep y (order-low y k) in
      cc

  steps-distinct : IsDistinct bytes_eq (step_modules s.maps.dep (plan_steps s request))
  steps-distinct =
      subst (IsDistinct bytes_eq) (sym names)
      (distinct-names (name_at (modules s)) (order s request) one-place
      (plan-distinct (among (before s)) (unloaded s) (after s)
      (asked s (found_for s request))))

  steps-unloaded : (name : List ℕ)
      → is_among (step_modules s.maps.dep (plan_steps s request)) name ≡ true
      → is_among s.loaded name ≡ false
  steps-unloaded name h =
      let w = at-step name h in
      let free
      = kept (λ x. not (is_among s.loaded (name_at (modules s) x))) (below (length (modules s)))
      w.0 (plan-members (among (before s)) (unloaded s) (after s)
      (asked s (found_for s request)) w.0 w.1) in
      ap (is_among s.loaded) (sym w.2) ∙ not-true _ free.0

  -- ---- what a line names is there before

  -- a place of the order with the names before it
  record Stands (before_names : List (List ℕ)) (name : List ℕ) : Type 0 where
    pub place : ℕ
    pub is : place ≡ get_or (order s request) (length before_names) 0
    pub within : length before_names < length (order s request)
    pub low : place < length (modules s)
    pub named : name_at (modules s) place ≡ name
    pub front : map (name_at (modules s)) (take (length before_names) (order s request))
        ≡ before_names

  stands-at : (before_steps : List PlanStep) (step : PlanStep) (after_steps : List PlanStep)
      → plan_steps s request ≡ before_steps ++ step ∷ after_steps → (name : List ℕ)
      → is_among (step_module s.maps.dep step) name ≡ true
      → Stands (step_modules s.maps.dep before_steps) name
  stands-at before_steps step after_steps split name here =
      let M = step_modules s.maps.dep in
      let parts : map (name_at (modules s)) (order s request)
      ≡ step_modules s.maps.dep before_steps ++ name ∷ step_modules s.maps.dep after_steps
      =
      sym names ∙ ap M split
      ∙ flat_map-append (step_module s.maps.dep) before_steps (step ∷ after_steps)
      ∙ ap (λ ns. M before_steps ++ (ns ++ M after_steps)) (one-name s name step here) in
      let w
      = parted (name_at (modules s)) (order s request) (M before_steps) (M after_steps) name
      parts in
      record {
        place = get_or (order s request) (length (M before_steps)) 0;
        is = refl;
        within = w.0;
        low
            = order-low (get_or (order s request) (length (M before_steps)) 0)
            (list_any_at (eqb (get_or (order s request) (length (M before_steps)) 0))
            (order s request) (length (M before_steps)) 0 w.0 (eq-eqb _ _ refl));
        named = w.1;
        front = w.2;
      }

  needed-behind : (before_names : List (List ℕ)) (name : List ℕ) → Stands before_names name
      → (needed : List ℕ) (y : ℕ)
      → is_among (needed_names (first_text s.maps.dep name)) needed ≡ true
      → place_of (modules s) needed ≡ Some y → is_among s.loaded needed ≡ false
      → is_among before_names needed ≡ true
  needed-behind before_names name at needed y needs e free =
      let line : first_text s.maps.dep name ≡ line_at (modules s) at.place
      = ap (first_text s.maps.dep) (sym at.named) ∙ line-own s at.place at.low in
      let is : name_at (modules s) y ≡ needed = place-name (modules s) needed y e in
      let low : y < length (modules s)
      = position-low (λ (m : KeyValue). bytes_eq m.0 needed) (modules s) y e in
      let wanted : has (line_places (modules s) at.place) y ≡ true
      = has-places s (needed_names (line_at (modules s) at.place)) needed y
      (ap (λ t. is_among (needed_names t) needed) (sym line) ∙ needs) e in
      let there : has (unloaded s) y ≡ true =
      keeps (λ x. not (is_among s.loaded (name_at (modules s) x))) (below (length (modules s))) y
      (not_from_false _ (ap (is_among s.loaded) is ∙ free))
      (has-range 0 (length (modules s)) y (omega arith) (omega (arith, low))) in
      let goes : among (before s) at.place y ≡ true
      = has-append (line_places (modules s) at.place) _ y ∙ or_left _ _ wanted in
      let early
      = plan-after (among (before s)) (unloaded s) (after s) (asked s (found_for s request))
      (length before_names) at.within y there
      (ap (λ x. among (before s) x y) (sym at.is) ∙ goes) in
      (λ i. is_among (sym at.front i) (sym is i))
      ∙ to-name (name_at (modules s)) (take (length before_names) (order s request)) y early

  module _ (sound : bad_name s.maps.dep ≡ None) where
    steps-behind : (before_steps : List PlanStep) (step : PlanStep) (after_steps : List PlanStep)
        → plan_steps s request ≡ before_steps ++ step ∷ after_steps → (name : List ℕ)
        → is_among (step_module s.maps.dep step) name ≡ true → (needed : List ℕ)
        → is_among (needed_names (first_text s.maps.dep name)) needed ≡ true
        → is_among (s.loaded ++ step_modules s.maps.dep before_steps) needed ≡ true
    steps-behind before_steps step after_steps split name here needed needs =
        list_any-append (bytes_eq needed) s.loaded (step_modules s.maps.dep before_steps)
        ∙ go (is_among s.loaded needed) refl (place_of (modules s) needed) refl
      where
        at : Stands (step_modules s.maps.dep before_steps) name
        at = stands-at before_steps step after_steps split name here

        line : first_text s.maps.dep name ≡ line_at (modules s) at.place
        line = ap (first_text s.maps.dep) (sym at.named) ∙ line-own s at.place at.low

        has-needed : has_value s.maps.dep needed ≡ true
        has-needed =
            among-all (has_value s.maps.dep) (needed_names (line_at (modules s) at.place)) needed
            (line-needs s sound at.place at.low)
            (ap (λ t. is_among (needed_names t) needed) (sym line) ∙ needs)

        go : (b : Bool) → is_among s.loaded needed ≡ b → (place : Option ℕ)
            → place_of (modules s) needed ≡ place
            → (b || is_among (step_modules s.maps.dep before_steps) needed) ≡ true
        go true free place e = refl
        go false free None e
            = absurd (true≢false (sym (has-modules s.maps.dep needed ∙ has-needed) ∙ ap is_some e))
        go false free (Some y) e
            = needed-behind (step_modules s.maps.dep before_steps) name at needed y needs e free

  -- ---- lines of modules.unmet

  module _ (tests : first (plan_tests s (found_for s request)) ≡ None) where
    in-plan : (path : List ℕ)
        → is_at_one s.maps.dep (map (name_at (modules s)) (order s request)) path
        ≡ is_path_of (modules s) (planned s (found_for s request)) path
    in-plan path =
        at-names s path (order s request) order-low
        ∙ any-same (λ x. bytes_eq (path_at (modules s) x) path) (order s request)
        (planned s (found_for s request))
        (plan-is_planned (among (before s)) (unloaded s) (after s)
        (asked s (found_for s request)) (lines-none s request tests).acyclic)

    either : (path : List ℕ)
        → is_there s.maps.dep (s.loaded ++ map (name_at (modules s)) (order s request)) path
        ≡ (is_path_of (modules s) (planned s (found_for s request)) path || stands s path)
    either path =
        ap (λ t. bytes_eq path vmlinux || t)
        (list_any-append
        (λ name. has_value s.maps.dep name
        && bytes_eq (own_path (first_text s.maps.dep name)) path) s.loaded
        (map (name_at (modules s)) (order s request)))
        ∙ (λ i. bytes_eq path vmlinux || (at-loaded s path s.loaded i || in-plan path i))
        ∙ or-parted (bytes_eq path vmlinux)
        (is_path_of (modules s) (places_of (modules s) s.loaded) path)
        (is_path_of (modules s) (planned s (found_for s request)) path)
        ∙ or_comm (stands s path) (is_path_of (modules s) (planned s (found_for s request)) path)

    steps-clear : (name : List ℕ)
        → is_among (step_modules s.maps.dep (plan_steps s request)) name ≡ true
        → list_any (belongs (own_path (first_text s.maps.dep name))) s.unmet ≡ false
    steps-clear name h =
        let w = at-step name h in
        let l = lines-none s request tests in
        let is : has (planned s (found_for s request)) w.0 ≡ true
        = sym (plan-is_planned (among (before s)) (unloaded s) (after s)
        (asked s (found_for s request)) l.acyclic w.0)
        ∙ w.1 in
        ap (λ t. list_any (belongs (own_path t)) s.unmet)
        (ap (first_text s.maps.dep) (sym w.2) ∙ line-own s w.0 (order-low w.0 w.1))
        ∙ clear-lines (is_path_of (modules s) (planned s (found_for s request))) (stands s)
        (path_at (modules s) w.0)
        (any-from_has (λ x. bytes_eq (path_at (modules s) x) (path_at (modules s) w.0))
        (planned s (found_for s request)) w.0 is
        ((bytes_eq-Decides (path_at (modules s) w.0) _).1 refl))
        s.unmet l.missing l.gpl l.version l.namespace

    steps-alone : list_any
        (collides
        (is_there s.maps.dep (s.loaded ++ step_modules s.maps.dep (plan_steps s request)))
        (is_at_one s.maps.dep (step_modules s.maps.dep (plan_steps s request)))) s.unmet
        ≡ false
    steps-alone =
        let l = lines-none s request tests in
        let plan = map (name_at (modules s)) (order s request) in
        ap (λ ns. list_any
        (collides (is_there s.maps.dep (s.loaded ++ ns)) (is_at_one s.maps.dep ns)) s.unmet)
        names
        ∙ alone-lines (is_path_of (modules s) (planned s (found_for s request))) (stands s)
        (is_there s.maps.dep (s.loaded ++ plan)) (is_at_one s.maps.dep plan) either in-plan
        s.unmet l.double

pub plans-are-closed : (s : Sources) (request : Request) → obstacle_of s request ≡ None
    → IsClosedPlan s (plan_steps s request)
plans-are-closed s request none =
    let w = sound-lines s request none in
    record {
      distinct = steps-distinct s request;
      unloaded = steps-unloaded s request;
      paths = plan-paths s request (own s w.0) (order-low s request);
      behind = steps-behind s request w.0;
      alone = steps-alone s request w.1;
      clear = steps-clear s request w.1;
    }
