-- Tables of soft dependencies, a name more at a time, and what they give for the modules that names
-- stand for.
use Rattle.std.proofs.Common.{◌≡◌, ◌≢◌, ℕ, zero, suc, ◌<◌, Bool, true, false, cond, List, [], ◌∷◌}
use Rattle.std.proofs.Common.{◌++◌, length, filter, set, replicate, Option, Some, None, Vec}
use Rattle.std.proofs.Common.{refl, sym, ap, ◌∙◌, inl, inr, append-nil}
use Rattle.std.specs.Prelude.{◌||◌, ◌&&◌, ◌⊎◌, ◌==◌, not, nat_eq, slice_index_or, IsSome}
use Rattle.std.specs.List.{flat_map}
use Rattle.std.specs.Map.{lookup}
use Rattle.std.specs.Option.{option_map, unwrap_or}
use Rattle.std.specs.Str.{bytes_eq}
use Rattle.std.specs.declared.alloc.Global.{Global}
use Rattle.std.proofs.lemmas.Bool.{true≢false, cases_eq, or_cases, or_left, or_right, eq-eqb}
use Rattle.std.proofs.lemmas.List.{get_or-set_same, get_or-set_other, length-set, length-replicate}
use Rattle.std.proofs.lemmas.List.Elements.{filter-append}
use Rattle.std.proofs.lemmas.List.Folds.{list_any-append}
use Rattle.std.proofs.lemmas.List.Sums.{fold-append}
use Rattle.std.proofs.lemmas.Grind.{flat_map-append}
use Rattle.std.proofs.lemmas.Slice.Eq.{bytes_eq-Decides}
use Rattle.name_table.specs.declared.key.NameKey.{NameKey}
use Rattle.name_table.specs.FirstSeen.{is_among}
use Rattle.relation_order.specs.Sets.{has}
use Rattle.relation_order.specs.Search.{with_item, with_items}
use Rattle.relation_order.proofs.Finding.{has-items}
use Rattle.dependency_lines.specs.Modules.{places_of}
use Rattle.plan_sources.specs.Sources.{Sources, modules, is_available, found_names, soft_places}
use Rattle.plan_sources.proofs.Troubled.{or-false}
use Rattle.plan_sources.specs.Softdeps.{loadable_places, PlaceLists}
use Rattle.plan_sources.specs.Softdeps.{kept_places, IsSoftTable, KnowsAvailable}

-- ---- a name more

pub among-more : (names : List (List ℕ)) (name other : List ℕ)
    → is_among (names ++ name ∷ []) other ≡ (is_among names other || (bytes_eq other name || false))
among-more names name other = list_any-append (bytes_eq other) names (name ∷ [])

abbrev list_for : List ℕ → PlaceLists → Option (Vec ℕ Global)
list_for name lists = lookup (λ (k : NameKey). bytes_eq name k.bytes.now) lists

-- a list more, under a name that has none yet
lookup-more : (other : List ℕ) (lists : PlaceLists) (k : NameKey) (v : Vec ℕ Global)
    (o : Option (Vec ℕ Global))
    → list_for other lists ≡ o
    → list_for other (lists ++ (k, v) ∷ [])
    ≡ unwrap_or (option_map (λ w. Some w) o) (cond (bytes_eq other k.bytes.now) (Some v) None)
lookup-more other [] k v o is =
    ap (λ p. unwrap_or (option_map (λ w. Some w) p)
    (cond (bytes_eq other k.bytes.now) (Some v) None)) is
lookup-more other (e ∷ lists) k v o is =
    by (bytes_eq other e.0.bytes.now) is (lookup-more other lists k v o)
  where
    by : (b : Bool) → cond b (Some e.1) (list_for other lists) ≡ o
        → (list_for other lists ≡ o
        → list_for other (lists ++ (k, v) ∷ [])
        ≡ unwrap_or (option_map (λ w. Some w) o)
        (cond (bytes_eq other k.bytes.now) (Some v) None))
        → cond b (Some e.1) (list_for other (lists ++ (k, v) ∷ []))
        ≡ unwrap_or (option_map (λ w. Some w) o) (cond (bytes_eq other k.bytes.now) (Some v) None)
    by true is rest
        = ap (λ p. unwrap_or (option_map (λ w. Some w) p)
        (cond (bytes_eq other k.bytes.now) (Some v) None)) is
    by false is rest = rest is

module _ (s : Sources) (names : List (List ℕ)) (lists : PlaceLists) (is : IsSoftTable s names lists)
    (name : List ℕ) where
  -- a name that is there is among the names
  among-kept : (ps : List ℕ) → kept_places lists name ≡ Some ps → is_among names name ≡ true
  among-kept ps kept = by (is_among names name) refl (sym (is name) ∙ kept)
    where
      by : (b : Bool) → is_among names name ≡ b
          → cond b (Some (loadable_places s name)) None ≡ Some ps → b ≡ true
      by true e h = refl
      by false e h = absurd (let bad = h in cc)

  table-same : (ps : List ℕ) → kept_places lists name ≡ Some ps
      → IsSoftTable s (names ++ name ∷ []) lists
  table-same ps kept other =
      is other
      ∙ ap (λ b. cond b (Some (loadable_places s other)) None)
      (by (is_among names other) refl (bytes_eq other name) refl
      ∙ sym (among-more names name other))
    where
      by : (b : Bool) → is_among names other ≡ b → (c : Bool) → bytes_eq other name ≡ c
          → is_among names other ≡ (is_among names other || (c || false))
      by true e c same = e ∙ sym (ap (λ t. t || (c || false)) e)
      by false e false same = e ∙ sym (ap (λ t. t || (false || false)) e)
      by false e true same =
          absurd (true≢false
          (sym (among-kept ps kept)
          ∙ ap (is_among names) (sym ((bytes_eq-Decides other name).0 same)) ∙ e))

  pub table-again : (o : Option (Vec ℕ Global)) → list_for name lists ≡ o → IsSome o
      → IsSoftTable s (names ++ name ∷ []) lists
  table-again None none some = absurd (true≢false (sym some))
  table-again (Some v) found some
      = table-same v.items (ap (option_map (λ (w : Vec ℕ Global). w.items)) found)

  -- a list more, under a name that wasn't among them
  pub table-more : (k : NameKey) (v : Vec ℕ Global) → k.bytes.now ≡ name
      → v.items ≡ loadable_places s name → list_for name lists ≡ None
      → IsSoftTable s (names ++ name ∷ []) (lists ++ (k, v) ∷ [])
  table-more k v key made none other =
      ap (option_map (λ (w : Vec ℕ Global). w.items))
      (lookup-more other lists k v (list_for other lists) refl)
      ∙ found (list_for other lists) (is other)
      ∙ ap (λ b. cond b (Some (loadable_places s other)) None) (sym (among-more names name other))
    where
      item : (c : Bool) → bytes_eq other k.bytes.now ≡ c
          → option_map (λ (w : Vec ℕ Global). w.items) (cond c (Some v) None)
          ≡ cond (c || false) (Some (loadable_places s other)) None
      item true same
          = ap (λ xs. Some xs)
          (made ∙ ap (loadable_places s) (sym ((bytes_eq-Decides other k.bytes.now).0 same ∙ key)))
      item false same = refl

      found : (o : Option (Vec ℕ Global))
          → option_map (λ (w : Vec ℕ Global). w.items) o
          ≡ cond (is_among names other) (Some (loadable_places s other)) None
          → option_map (λ (w : Vec ℕ Global). w.items)
          (unwrap_or (option_map (λ w. Some w) o) (cond (bytes_eq other k.bytes.now) (Some v) None))
          ≡ cond (is_among names other || (bytes_eq other name || false))
          (Some (loadable_places s other)) None
      found None h = by (is_among names other) h
        where
          by : (b : Bool) → None ≡ cond b (Some (loadable_places s other)) None
              → option_map (λ (w : Vec ℕ Global). w.items)
              (cond (bytes_eq other k.bytes.now) (Some v) None)
              ≡ cond (b || (bytes_eq other name || false)) (Some (loadable_places s other)) None
          by true h = absurd (let bad = h in cc)
          by false h =
              item (bytes_eq other k.bytes.now) refl
              ∙ ap (λ n. cond (bytes_eq other n || false) (Some (loadable_places s other)) None) key
      found (Some w) h = by (is_among names other) h
        where
          by : (b : Bool) → Some w.items ≡ cond b (Some (loadable_places s other)) None
              → Some w.items
              ≡ cond (b || (bytes_eq other name || false)) (Some (loadable_places s other)) None
          by true h = h
          by false h = absurd (let bad = h in cc)

-- ---- what a table gives

module _ (s : Sources) (lists : PlaceLists) (held : List (List ℕ)) (is : IsSoftTable s held lists)
  where
    -- for names that it has, the modules that they stand for
    given : (name : List ℕ) → is_among held name ≡ true
        → unwrap_or (kept_places lists name) [] ≡ loadable_places s name
    given name h
        = ap (λ o. unwrap_or o [])
        (is name ∙ ap (λ b. cond b (Some (loadable_places s name)) None) h)

    all-given : (names : List (List ℕ))
        → ((name : List ℕ) → is_among names name ≡ true → is_among held name ≡ true)
        → flat_map (λ name. unwrap_or (kept_places lists name) []) names
        ≡ flat_map (loadable_places s) names
    all-given [] among = refl
    all-given (name ∷ names) among =
        λ i. given name (among name (or_left _ _ ((bytes_eq-Decides name name).1 refl))) i
        ++ all-given names (λ n h. among n (or_right _ _ h)) i

    filter-and : (p q : ℕ → Bool) (xs : List ℕ)
        → filter (λ y. p y && q y) xs ≡ filter p (filter q xs)
    filter-and p q [] = refl
    filter-and p q (x ∷ xs) = by (q x) (p x) refl (filter-and p q xs)
      where
        by : (b c : Bool) → p x ≡ c → filter (λ y. p y && q y) xs ≡ filter p (filter q xs)
            → cond (c && b) (x ∷ filter (λ y. p y && q y) xs) (filter (λ y. p y && q y) xs)
            ≡ filter p (cond b (x ∷ filter q xs) (filter q xs))
        by true true e rest
            = (λ i. x ∷ rest i)
            ∙ sym (ap (λ t. cond t (x ∷ filter p (filter q xs)) (filter p (filter q xs))) e)
        by true false e rest
            = rest ∙ sym (ap (λ t. cond t (x ∷ filter p (filter q xs)) (filter p (filter q xs))) e)
        by false true e rest = rest
        by false false e rest = rest

    filter-each : (q : ℕ → Bool) (f : List ℕ → List ℕ) (names : List (List ℕ))
        → filter q (flat_map f names) ≡ flat_map (λ name. filter q (f name)) names
    filter-each q f [] = refl
    filter-each q f (name ∷ names)
        = filter-append q (f name) (flat_map f names)
        ∙ ap (λ ys. filter q (f name) ++ ys) (filter-each q f names)

    -- for those of soft dependencies, the modules that they stand for and that can be loaded
    pub soft-given : (x : ℕ) (names : List (List ℕ))
        → ((name : List ℕ) → is_among names name ≡ true → is_among held name ≡ true)
        → filter (λ y. not (y == x))
        (flat_map (λ name. unwrap_or (kept_places lists name) []) names)
        ≡ soft_places s x names
    soft-given x names are =
        ap (filter (λ y. not (y == x)))
        (all-given names are
        ∙ sym (filter-each (is_available (modules s) s.unmet)
        (λ name. places_of (modules s) (found_names s name)) names))
        ∙ sym (filter-and (λ y. not (y == x)) (is_available (modules s) s.unmet)
        (flat_map (λ name. places_of (modules s) (found_names s name)) names))

-- the same where these names were added last
pub soft-added : (s : Sources) (lists : PlaceLists) (held names : List (List ℕ))
    → IsSoftTable s (held ++ names) lists → (x : ℕ)
    → filter (λ y. not (y == x)) (flat_map (λ name. unwrap_or (kept_places lists name) []) names)
    ≡ soft_places s x names
soft-added s lists held names is x =
    soft-given s lists (held ++ names) is x names
    (λ name h. list_any-append (bytes_eq name) held names ∙ or_right _ _ h)

-- ---- modules that names stand for, each once, a name more at a time

module _ (f : ℕ → Bool) (g : List ℕ → List ℕ) where
  abbrev pub found_for : List (List ℕ) → List ℕ
  found_for names = with_items [] (filter f (flat_map g names))

  pub found-more : (names : List (List ℕ)) (name : List ℕ)
      → found_for (names ++ name ∷ []) ≡ with_items (found_for names) (filter f (g name))
  found-more names name =
      ap (λ ys. with_items [] (filter f ys))
      (flat_map-append g names (name ∷ [])
      ∙ ap (λ ys. flat_map g names ++ ys) (append-nil (g name)))
      ∙ ap (with_items []) (filter-append f (flat_map g names) (g name))
      ∙ fold-append with_item [] (filter f (flat_map g names)) (filter f (g name))

  -- what a name among them stands for was found
  stood : (names : List (List ℕ)) (name : List ℕ) → is_among names name ≡ true → (y : ℕ)
      → has (filter f (g name)) y ≡ true → has (filter f (flat_map g names)) y ≡ true
  stood [] name h y m = absurd (true≢false (sym h))
  stood (n ∷ names) name h y m =
      ap (λ ys. has ys y) (filter-append f (g n) (flat_map g names))
      ∙ list_any-append (nat_eq y) (filter f (g n)) (filter f (flat_map g names))
      ∙ either (or_cases _ _ h) (λ later. stood names name later y m)
    where
      either : (bytes_eq name n ≡ true) ⊎ (is_among names name ≡ true)
          → (is_among names name ≡ true → has (filter f (flat_map g names)) y ≡ true)
          → (has (filter f (g n)) y || has (filter f (flat_map g names)) y) ≡ true
      either (inl same) more
          = or_left _ _
          (ap (λ k. has (filter f (g k)) y) (sym ((bytes_eq-Decides name n).0 same)) ∙ m)
      either (inr later) more = or_right _ _ (more later)

  no-new : (found ys : List ℕ) → ((y : ℕ) → has ys y ≡ true → has found y ≡ true)
      → with_items found ys ≡ found
  no-new found [] old = refl
  no-new found (y ∷ ys) old =
      ap (λ b. with_items (cond b found (found ++ y ∷ [])) ys)
      (old y (or_left _ _ (eq-eqb y y refl)))
      ∙ no-new found ys (λ z h. old z (or_right _ _ h))

  -- a name that stands again
  pub found-again : (names : List (List ℕ)) (name : List ℕ) → is_among names name ≡ true
      → found_for (names ++ name ∷ []) ≡ found_for names
  found-again names name h =
      found-more names name
      ∙ no-new (found_for names) (filter f (g name))
      (λ y m. has-items [] (filter f (flat_map g names)) y ∙ stood names name h y m)

  -- what is among names is among them and one more
  pub among-still : (names : List (List ℕ)) (name other : List ℕ) → is_among names other ≡ true
      → is_among (names ++ name ∷ []) other ≡ true
  among-still names name other h = among-more names name other ∙ or_left _ _ h

  -- and so is that one
  pub among-last : (names : List (List ℕ)) (name other : List ℕ)
      → (is_among names other || bytes_eq other name) ≡ true
      → is_among (names ++ name ∷ []) other ≡ true
  among-last names name other h
      = among-more names name other
      ∙ ap (λ b. is_among names other || b) (or-false (bytes_eq other name)) ∙ h

-- ---- what is known of whether modules can be loaded

none-known : (n x : ℕ) → slice_index_or (replicate {A = Option Bool} n None) x None ≡ None
none-known zero x = refl
none-known (suc n) zero = refl
none-known (suc n) (suc x) = none-known n x

pub knows-none : (s : Sources) (known : List (Option Bool)) (n : ℕ) → known ≡ replicate n None
    → n ≡ length (modules s) → KnowsAvailable s known
knows-none s known n is long = record {
  long = ap length is ∙ length-replicate n None ∙ long;
  right
      = λ x b some. absurd
      (let none
      = sym (none-known n x) ∙ ap (λ ks. slice_index_or ks x None) (sym is) ∙ some in cc);
}

pub knows-more : (s : Sources) (known : List (Option Bool)) (place : ℕ) (loadable : Bool)
    → KnowsAvailable s known → place < length known
    → loadable ≡ is_available (modules s) s.unmet place
    → KnowsAvailable s (set known place (Some loadable))
knows-more s known place loadable knows l is = record {
  long = length-set known place (Some loadable) ∙ knows.long;
  right = λ x b some. by x b some (cases_eq x place);
}
  where
    by : (x : ℕ) (b : Bool) → slice_index_or (set known place (Some loadable)) x None ≡ Some b
        → (x ≡ place) ⊎ (x ≢ place) → b ≡ is_available (modules s) s.unmet x
    by x b some (inl same) =
        let here : slice_index_or (set known place (Some loadable)) x None ≡ Some loadable
        = ap (λ y. slice_index_or (set known place (Some loadable)) y None) same
        ∙ get_or-set_same known place (Some loadable) None l in
        let equal : b ≡ loadable = cc in
        equal ∙ is ∙ ap (is_available (modules s) s.unmet) (sym same)
    by x b some (inr other) =
        knows.right x b (sym (get_or-set_other known place x (Some loadable) None other) ∙ some)
