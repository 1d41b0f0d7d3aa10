-- The modules of a plan's steps are those of its order, and each step that loads a module has its
-- own path.
use Rattle.std.proofs.Common.{◌≡◌, ℕ, ◌<◌, Bool, true, false, cond, List, [], ◌∷◌, ◌++◌, length}
use Rattle.std.proofs.Common.{map, drop, Option, Some, None, refl, sym, ap, subst, ◌∙◌}
use Rattle.std.proofs.Common.{append_assoc}
use Rattle.std.specs.Prelude.{◌&&◌, All, is_some}
use Rattle.std.proofs.lemmas.Bool.{or_left, or_right, eq-eqb}
use Rattle.std.proofs.lemmas.List.{append-nil, map-append}
use Rattle.std.proofs.lemmas.List.Elements.{All-nil, All-cons, All-append}
use Rattle.std.proofs.lemmas.Grind.{flat_map-append}
use Rattle.std.proofs.Math.Seq.{drop-append_seam}
use Rattle.relation_order.specs.Sets.{has}
use Rattle.name_lookup.specs.Maps.{has_value}
use Rattle.name_lookup.specs.declared.found.Found.{Found}
use Rattle.plan_order.specs.Plan.{plan, group, with_groups}
use Rattle.plan_order.specs.Lists.{among}
use Rattle.plan_order.proofs.Complete.{groups-more}
use Rattle.name_table.specs.FirstSeen.{is_among}
use Rattle.plan_builder.specs.declared.request.Request.{Request}
use Rattle.dependency_lines.specs.Modules.{name_at, path_at, place_of, places_of}
use Rattle.plan_sources.specs.Sources.{Sources, modules}
use Rattle.planned_modules.specs.Needs.{before, after, unloaded}
use Rattle.planned_modules.specs.Members.{asked, chosen_command, kind_unless}
use Rattle.plan_builder.specs.Requested.{found_for, is_member}
use Rattle.plan_builder.specs.Steps.{step_unless, module_step, options_of, step_of_kind, own_step}
use Rattle.plan_builder.specs.Steps.{own_step_unless, own_steps, later, plan_steps}
use Rattle.plan_builder.specs.Closed.{step_module, step_modules, IsOwnPath, IsAtOwnPath}
use Rattle.dependency_lines.proofs.Firsts.{has-modules}
use Rattle.plan_sources.proofs.Inside.{has-append}
use Rattle.dependency_lines.proofs.Keys.{has-own}
use Rattle.plan_builder.proofs.StepLaws.{plan-front}
use Rattle.plan_builder.proofs.StepPlaces.{steps_from, plan-placed}

module _ (s : Sources) (request : Request) where
  -- ---- a member that is no module has no step of a module

  no-module : (name : List ℕ) → step_modules s.maps.dep (own_step s request name) ≡ []
  no-module name =
      go (place_of (modules s) name) (chosen_command s.rules request.ignore_install name)
      (has_value s.maps.builtin name) refl
    where
      go : (place : Option ℕ) (command : Option (List ℕ)) (builtin : Bool)
          → place_of (modules s) name ≡ place
          → step_modules s.maps.dep (step_of_kind (kind_unless place command builtin) name) ≡ []
      go (Some x) command builtin e = refl
      go None (Some command) builtin e =
          ap (λ t. cond t (name ∷ []) [] ++ []) (sym (has-modules s.maps.dep name) ∙ ap is_some e)
      go None None true e = refl
      go None None false e = refl

  none-unless : (earlier : List (List ℕ)) (name : List ℕ)
      → step_modules s.maps.dep (own_step_unless s request earlier name) ≡ []
  none-unless earlier name = go (is_among earlier name)
    where
      go : (b : Bool) → step_modules s.maps.dep (cond b [] (own_step s request name)) ≡ []
      go true = refl
      go false = no-module name

  own-none : (earlier names : List (List ℕ))
      → step_modules s.maps.dep (own_steps s request earlier names) ≡ []
  own-none earlier [] = refl
  own-none earlier (name ∷ names) =
      flat_map-append (step_module s.maps.dep) (own_step_unless s request earlier name)
      (own_steps s request earlier names)
      ∙ (λ i. none-unless earlier name i ++ own-none earlier names i)

  no-path : (name : List ℕ) → All (IsAtOwnPath s.maps.dep) (own_step s request name)
  no-path name =
      go (place_of (modules s) name) (chosen_command s.rules request.ignore_install name)
      (has_value s.maps.builtin name)
    where
      go : (place : Option ℕ) (command : Option (List ℕ)) (builtin : Bool)
          → All (IsAtOwnPath s.maps.dep) (step_of_kind (kind_unless place command builtin) name)
      go (Some x) command builtin = All-nil (IsAtOwnPath s.maps.dep)
      go None (Some command) builtin
          = All-cons (IsAtOwnPath s.maps.dep) _ [] tt (All-nil (IsAtOwnPath s.maps.dep))
      go None None true
          = All-cons (IsAtOwnPath s.maps.dep) _ [] tt (All-nil (IsAtOwnPath s.maps.dep))
      go None None false = All-nil (IsAtOwnPath s.maps.dep)

  path-unless : (earlier : List (List ℕ)) (name : List ℕ)
      → All (IsAtOwnPath s.maps.dep) (own_step_unless s request earlier name)
  path-unless earlier name = go (is_among earlier name)
    where
      go : (b : Bool) → All (IsAtOwnPath s.maps.dep) (cond b [] (own_step s request name))
      go true = All-nil (IsAtOwnPath s.maps.dep)
      go false = no-path name

  own-paths : (earlier names : List (List ℕ))
      → All (IsAtOwnPath s.maps.dep) (own_steps s request earlier names)
  own-paths earlier [] = All-nil (IsAtOwnPath s.maps.dep)
  own-paths earlier (name ∷ names) =
      All-append (IsAtOwnPath s.maps.dep) (own_step_unless s request earlier name)
      (own_steps s request earlier names) (path-unless earlier name) (own-paths earlier names)

  -- ---- a module has its own step

  module-one : (x : ℕ) → x < length (modules s)
      → step_module s.maps.dep (module_step s request x) ≡ name_at (modules s) x ∷ []
  module-one x l =
      go (chosen_command s.rules
      (request.ignore_install && is_member s request (name_at (modules s) x))
      (name_at (modules s) x))
    where
      go : (command : Option (List ℕ))
          → step_module s.maps.dep
          (step_unless command (name_at (modules s) x) (path_at (modules s) x)
          (options_of s request (name_at (modules s) x)))
          ≡ name_at (modules s) x ∷ []
      go None = refl
      go (Some command) = ap (λ t. cond t (name_at (modules s) x ∷ []) []) (has-own s.maps.dep x l)

  -- all of these are places of modules
  abbrev pub Low : List ℕ → Type 0
  Low xs = (y : ℕ) → has xs y ≡ true → y < length (modules s)

  low-left : (xs ys : List ℕ) → Low (xs ++ ys) → Low xs
  low-left xs ys low y h = low y (has-append xs ys y ∙ or_left _ _ h)

  low-right : (xs ys : List ℕ) → Low (xs ++ ys) → Low ys
  low-right xs ys low y h = low y (has-append xs ys y ∙ or_right _ _ h)

  low-head : (x : ℕ) (xs : List ℕ) → Low (x ∷ xs) → x < length (modules s)
  low-head x xs low = low x (or_left _ _ (eq-eqb x x refl))

  low-tail : (x : ℕ) (xs : List ℕ) → Low (x ∷ xs) → Low xs
  low-tail x xs low y h = low y (or_right _ _ h)

  module-names : (xs : List ℕ) → Low xs
      → step_modules s.maps.dep (map (module_step s request) xs) ≡ map (name_at (modules s)) xs
  module-names [] low = refl
  module-names (x ∷ xs) low =
      λ i. module-one x (low-head x xs low) i ++ module-names xs (low-tail x xs low) i

  module _ (own : (x : ℕ) → x < length (modules s)
      → IsOwnPath s.maps.dep (name_at (modules s) x) (path_at (modules s) x)) where
    module-path : (x : ℕ) → x < length (modules s)
        → IsAtOwnPath s.maps.dep (module_step s request x)
    module-path x l =
        go (chosen_command s.rules
        (request.ignore_install && is_member s request (name_at (modules s) x))
        (name_at (modules s) x))
      where
        go : (command : Option (List ℕ))
            → IsAtOwnPath s.maps.dep
            (step_unless command (name_at (modules s) x) (path_at (modules s) x)
            (options_of s request (name_at (modules s) x)))
        go None = own x l
        go (Some command) = tt

    module-paths : (xs : List ℕ) → Low xs
        → All (IsAtOwnPath s.maps.dep) (map (module_step s request) xs)
    module-paths [] low = All-nil (IsAtOwnPath s.maps.dep)
    module-paths (x ∷ xs) low =
        All-cons (IsAtOwnPath s.maps.dep) (module_step s request x) (map (module_step s request) xs)
        (module-path x (low-head x xs low)) (module-paths xs (low-tail x xs low))

  -- ---- group by group

  abbrev asks : List Found → List (List ℕ)
  asks fs = map (λ f. places_of (modules s) f.names) fs

  abbrev groups : List ℕ → List Found → List ℕ
  groups done fs = with_groups (among (before s)) (unloaded s) done (asks fs)

  abbrev group_of : List ℕ → Found → List ℕ
  group_of done f = group (among (before s)) (unloaded s) done (places_of (modules s) f.names)

  -- the group of the next name is low
  group-low : (done : List ℕ) (f : Found) (fs : List Found) → Low (groups done (f ∷ fs))
      → Low (group_of done f)
  group-low done f fs low =
      let more = groups-more (among (before s)) (unloaded s) (done ++ group_of done f) (asks fs) in
      low-right done (group_of done f)
      (low-left (done ++ group_of done f) more.0 (λ y h. low y (ap (λ xs. has xs y) more.1 ∙ h)))

  from-names : (earlier : List (List ℕ)) (done : List ℕ) (fs : List Found) → Low (groups done fs)
      → map (name_at (modules s)) done
      ++ step_modules s.maps.dep (steps_from s request earlier done fs)
      ≡ map (name_at (modules s)) (groups done fs)
  from-names earlier done [] low = append-nil (map (name_at (modules s)) done)
  from-names earlier done (f ∷ fs) low =
      let names = map (name_at (modules s)) in
      let own = own_steps s request earlier f.names in
      let here = map (module_step s request) (group_of done f) in
      let rest = steps_from s request (earlier ++ f.names) (done ++ group_of done f) fs in
      let parts : step_modules s.maps.dep
      (own_steps s request earlier f.names
      ++ (map (module_step s request) (group_of done f)
      ++ steps_from s request (earlier ++ f.names) (done ++ group_of done f)
      fs))
      ≡ map (name_at (modules s)) (group_of done f)
      ++ step_modules s.maps.dep
      (steps_from s request (earlier ++ f.names) (done ++ group_of done f) fs)
      =
      flat_map-append (step_module s.maps.dep) own (here ++ rest)
      ∙ (λ i. own-none earlier f.names i ++ flat_map-append (step_module s.maps.dep) here rest i)
      ∙ ap (λ xs. xs ++ step_modules s.maps.dep rest)
      (module-names (group_of done f) (group-low done f fs low)) in
      ap (λ xs. names done ++ xs) parts
      ∙ sym (append_assoc (names done) (names (group_of done f)) (step_modules s.maps.dep rest))
      ∙ ap (λ xs. xs ++ step_modules s.maps.dep rest)
      (sym (map-append (name_at (modules s)) done (group_of done f)))
      ∙ from-names (earlier ++ f.names) (done ++ group_of done f) fs low

  module _ (own : (x : ℕ) → x < length (modules s)
      → IsOwnPath s.maps.dep (name_at (modules s) x) (path_at (modules s) x)) where
    from-paths : (earlier : List (List ℕ)) (done : List ℕ) (fs : List Found) → Low (groups done fs)
        → All (IsAtOwnPath s.maps.dep) (steps_from s request earlier done fs)
    from-paths earlier done [] low = All-nil (IsAtOwnPath s.maps.dep)
    from-paths earlier done (f ∷ fs) low =
        let here = map (module_step s request) (group_of done f) in
        let rest = steps_from s request (earlier ++ f.names) (done ++ group_of done f) fs in
        All-append (IsAtOwnPath s.maps.dep) (own_steps s request earlier f.names) (here ++ rest)
        (own-paths earlier f.names)
        (All-append (IsAtOwnPath s.maps.dep) here rest
        (module-paths own (group_of done f) (group-low done f fs low))
        (from-paths (earlier ++ f.names) (done ++ group_of done f) fs low))

  -- ---- the whole plan

  abbrev pub order : List ℕ
  order = plan (among (before s)) (unloaded s) (after s) (asked s (found_for s request))

  abbrev first_groups : List ℕ
  first_groups = with_groups (among (before s)) (unloaded s) [] (asked s (found_for s request))

  whole : order ≡ first_groups ++ later s (found_for s request)
  whole =
      let front
      = plan-front (among (before s)) (unloaded s) (after s) (asked s (found_for s request)) in
      front.1
      ∙ ap (λ xs. first_groups ++ xs)
      (sym (ap (drop (length first_groups)) front.1 ∙ drop-append_seam first_groups front.0))

  pub plan-names : Low order
      → step_modules s.maps.dep (plan_steps s request) ≡ map (name_at (modules s)) order
  plan-names low =
      let late = later s (found_for s request) in
      let all : (y : ℕ) → has (first_groups ++ later s (found_for s request)) y ≡ true
      → y < length (modules s)
      = λ y h. low y (ap (λ xs. has xs y) whole ∙ h) in
      ap (step_modules s.maps.dep) (plan-placed s request)
      ∙ flat_map-append (step_module s.maps.dep) (steps_from s request [] [] (found_for s request))
      (map (module_step s request) late)
      ∙ (λ i. from-names [] [] (found_for s request) (low-left first_groups late all) i
      ++ module-names late (low-right first_groups late all) i)
      ∙ sym (map-append (name_at (modules s)) first_groups late)
      ∙ ap (map (name_at (modules s))) (sym whole)

  pub plan-paths : ((x : ℕ) → x < length (modules s)
      → IsOwnPath s.maps.dep (name_at (modules s) x) (path_at (modules s) x))
      → Low order → All (IsAtOwnPath s.maps.dep) (plan_steps s request)
  plan-paths own low =
      let late = later s (found_for s request) in
      let all : (y : ℕ) → has (first_groups ++ later s (found_for s request)) y ≡ true
      → y < length (modules s)
      = λ y h. low y (ap (λ xs. has xs y) whole ∙ h) in
      subst (All (IsAtOwnPath s.maps.dep)) (sym (plan-placed s request))
      (All-append (IsAtOwnPath s.maps.dep) (steps_from s request [] [] (found_for s request))
      (map (module_step s request) late)
      (from-paths own [] [] (found_for s request) (low-left first_groups late all))
      (module-paths own late (low-right first_groups late all)))
