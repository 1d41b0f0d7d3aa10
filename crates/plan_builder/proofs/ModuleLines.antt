-- Modules by their names and dependency lines.
use Rattle.std.proofs.Common.{◌≡◌, ℕ, ◌<◌, Bool, true, false, cond, List, [], ◌∷◌, length, map}
use Rattle.std.proofs.Common.{Option, Some, None, refl, sym, ap, ◌∙◌, inl, inr}
use Rattle.std.specs.Prelude.{◌||◌, ◌⊎◌, ◌&&◌, not, is_some}
use Rattle.std.specs.List.{AllByRecursion, find, list_all}
use Rattle.std.specs.Option.{option_map_or, option_to_list}
use Rattle.std.specs.Str.{bytes_eq}
use Rattle.std.proofs.lemmas.Bool.{true≢false, and_parts, or_cases, or_left, or_right, eq-eqb}
use Rattle.std.proofs.lemmas.List.Folds.{list_any-append}
use Rattle.std.proofs.lemmas.Slice.Eq.{bytes_eq-Decides}
use Rattle.mod_tree.specs.DependencyLine.{own_path}
use Rattle.index_format.specs.Map.{Value}
use Rattle.index_format.specs.Listing.{KeyValue}
use Rattle.name_table.specs.FirstSeen.{is_among}
use Rattle.name_lookup.specs.Maps.{has_value}
use Rattle.relation_order.specs.Sets.{has}
use Rattle.plan_builder.specs.declared.step.PlanStep.{PlanStep}
use Rattle.plan_builder.specs.declared.step.PlanStep.TheVariants.{Insert, Install, Builtin}
use Rattle.dependency_lines.specs.Modules.{bad_name, first_values, is_line_of, module_at, name_at}
use Rattle.dependency_lines.specs.Modules.{line_at, path_at, place_of, places_of, needed_names}
use Rattle.plan_sources.specs.Sources.{Sources, modules}
use Rattle.plan_builder.specs.Obstacles.{is_path_of}
use Rattle.plan_builder.specs.Closed.{first_text, step_module, is_at_one, IsOwnPath}
use Rattle.plan_builder.proofs.ClearLines.{none-found}
use Rattle.dependency_lines.proofs.Finds.{option-none}
use Rattle.dependency_lines.proofs.Firsts.{has-modules}
use Rattle.plan_sources.proofs.Inside.{has-append, position-low}
use Rattle.dependency_lines.proofs.Keys.{place-name, has-own, module-first, modules-each}
use Rattle.plan_sources.proofs.Troubled.{or-false}

each-passes : (p : KeyValue → Bool) (ms : List KeyValue) → find (λ m. not (p m)) ms ≡ None
    → AllByRecursion (λ m. p m ≡ true) ms
each-passes p [] none = tt
each-passes p (m ∷ ms) none =
    let w = none-found (λ n. not (p n)) m ms none in
    (passes (p m) w.0, each-passes p ms w.1)
  where
    passes : (b : Bool) → not b ≡ false → b ≡ true
    passes true e = refl
    passes false e = absurd (true≢false e)

module _ (s : Sources) where
  -- ---- dependency lines and paths of modules

  pub line-own : (x : ℕ) → x < length (modules s)
      → first_text s.maps.dep (name_at (modules s) x) ≡ line_at (modules s) x
  line-own x l = ap (λ o. option_map_or (λ (v : Value). v.1) o []) (module-first s.maps.dep x l)

  at-name : (path : List ℕ) (x : ℕ) → x < length (modules s)
      → (has_value s.maps.dep (name_at (modules s) x)
      && bytes_eq (own_path (first_text s.maps.dep (name_at (modules s) x))) path)
      ≡ bytes_eq (path_at (modules s) x) path
  at-name path x l = λ i. has-own s.maps.dep x l i && bytes_eq (own_path (line-own x l i)) path

  pub at-names : (path : List ℕ) (xs : List ℕ)
      → ((y : ℕ) → has xs y ≡ true → y < length (modules s))
      → is_at_one s.maps.dep (map (name_at (modules s)) xs) path ≡ is_path_of (modules s) xs path
  at-names path [] low = refl
  at-names path (x ∷ xs) low =
      λ i. at-name path x (low x (or_left _ _ (eq-eqb x x refl))) i
      || at-names path xs (λ y h. low y (or_right _ _ h)) i

  at-place : (path name : List ℕ)
      → (has_value s.maps.dep name && bytes_eq (own_path (first_text s.maps.dep name)) path)
      ≡ is_path_of (modules s) (option_to_list (place_of (modules s) name)) path
  at-place path name = go (place_of (modules s) name) refl
    where
      go : (place : Option ℕ) → place_of (modules s) name ≡ place
          → (has_value s.maps.dep name && bytes_eq (own_path (first_text s.maps.dep name)) path)
          ≡ is_path_of (modules s) (option_to_list place) path
      go None e =
          ap (λ t. t && bytes_eq (own_path (first_text s.maps.dep name)) path)
          (sym (has-modules s.maps.dep name) ∙ ap is_some e)
      go (Some y) e =
          ap (λ n. has_value s.maps.dep n && bytes_eq (own_path (first_text s.maps.dep n)) path)
          (sym (place-name (modules s) name y e))
          ∙ at-name path y (position-low (λ (m : KeyValue). bytes_eq m.0 name) (modules s) y e)
          ∙ sym (or-false (bytes_eq (path_at (modules s) y) path))

  pub at-loaded : (path : List ℕ) (names : List (List ℕ))
      → is_at_one s.maps.dep names path ≡ is_path_of (modules s) (places_of (modules s) names) path
  at-loaded path [] = refl
  at-loaded path (name ∷ names) =
      (λ i. at-place path name i || at-loaded path names i)
      ∙ sym (list_any-append (λ x. bytes_eq (path_at (modules s) x) path)
      (option_to_list (place_of (modules s) name)) (places_of (modules s) names))

  -- the place of a name stands among those of names
  pub has-places : (names : List (List ℕ)) (name : List ℕ) (y : ℕ) → is_among names name ≡ true
      → place_of (modules s) name ≡ Some y → has (places_of (modules s) names) y ≡ true
  has-places [] name y h e = absurd (true≢false (sym h))
  has-places (n ∷ names) name y h e =
      has-append (option_to_list (place_of (modules s) n)) (places_of (modules s) names) y
      ∙ go (or_cases _ _ h) (λ m. has-places names name y m e)
    where
      go : (bytes_eq name n ≡ true) ⊎ (is_among names name ≡ true)
          → (is_among names name ≡ true → has (places_of (modules s) names) y ≡ true)
          → (has (option_to_list (place_of (modules s) n)) y || has (places_of (modules s) names) y)
          ≡ true
      go (inl is) ih =
          or_left _ _ (ap (λ o. has (option_to_list o) y)
          (ap (place_of (modules s)) (sym ((bytes_eq-Decides name n).0 is)) ∙ e)
          ∙ or_left _ _ (eq-eqb y y refl))
      go (inr m) ih = or_right _ _ (ih m)

  -- a name of a step's module is the one that it has
  pub one-name : (name : List ℕ) (step : PlanStep)
      → is_among (step_module s.maps.dep step) name ≡ true → step_module s.maps.dep step ≡ name ∷ []
  one-name name (Insert n path options) h = alone (or_cases _ _ h)
    where
      alone : (bytes_eq name n ≡ true) ⊎ (false ≡ true) → n ∷ [] ≡ name ∷ []
      alone (inl e) = ap (λ k. k ∷ []) (sym ((bytes_eq-Decides name n).0 e))
      alone (inr bad) = absurd (true≢false (sym bad))
  one-name name (Install n command) h = go (has_value s.maps.dep n) h
    where
      alone : (bytes_eq name n ≡ true) ⊎ (false ≡ true) → n ∷ [] ≡ name ∷ []
      alone (inl e) = ap (λ k. k ∷ []) (sym ((bytes_eq-Decides name n).0 e))
      alone (inr bad) = absurd (true≢false (sym bad))

      go : (b : Bool) → is_among (cond b (n ∷ []) []) name ≡ true → cond b (n ∷ []) [] ≡ name ∷ []
      go true h = alone (or_cases _ _ h)
      go false h = absurd (true≢false (sym h))
  one-name name (Builtin n) h = absurd (true≢false (sym h))

module _ (s : Sources) (sound : bad_name s.maps.dep ≡ None) where
  -- each module's value is its dependency line
  well : (x : ℕ) → x < length (modules s)
      → is_line_of (has_value s.maps.dep) (name_at (modules s) x) (line_at (modules s) x) ≡ true
  well =
      modules-each (λ (m : KeyValue). is_line_of (has_value s.maps.dep) m.0 m.1.1 ≡ true) s.maps.dep
      (each-passes (λ (m : KeyValue). is_line_of (has_value s.maps.dep) m.0 m.1.1)
      (first_values s.maps.dep)
      (option-none (λ (m : KeyValue). m.0)
      (find (λ (m : KeyValue). not (is_line_of (has_value s.maps.dep) m.0 m.1.1))
      (first_values s.maps.dep)) sound))

  pub line-needs : (x : ℕ) → x < length (modules s)
      → list_all (has_value s.maps.dep) (needed_names (line_at (modules s) x)) ≡ true
  line-needs x l = (and_parts _ _ (and_parts _ _ (well x l)).1).1

  pub own : (x : ℕ) → x < length (modules s)
      → IsOwnPath s.maps.dep (name_at (modules s) x) (path_at (modules s) x)
  own x l = record {
    value = (module_at (modules s) x).1;
    first = module-first s.maps.dep x l;
    own = refl;
    named = (bytes_eq-Decides _ _).0 (and_parts _ _ (and_parts _ _ (well x l)).1).0;
  }
