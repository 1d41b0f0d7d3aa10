-- Items that share a name, an item more at a time.
use Rattle.std.proofs.Common.{◌≡◌, ◌≢◌, ℕ, zero, suc, ◌+◌, ◌<◌, ◌≤◌, Bool, true, false, ◌||◌, List}
use Rattle.std.proofs.Common.{[], ◌∷◌, ◌++◌, length, map, take, set, get_or, replicate, cond, eqb}
use Rattle.std.proofs.Common.{Option, Some, None, is_some, All, refl, sym, ap, subst, inl, inr, not}
use Rattle.std.proofs.Common.{◌∙◌, append_assoc, append-nil, add-one, add-zero, arith}
use Rattle.std.specs.List.{filter, list_any, range_with_len, slice_get}
use Rattle.std.specs.Option.{option_map_or}
use Rattle.std.specs.Str.{bytes_eq}
use Rattle.std.proofs.lemmas.Bool.{false≢true, or_left, or_right, cases_lt, cases_eq, eqb-true}
use Rattle.std.proofs.lemmas.Bool.{eq-eqb, ne_eqb}
use Rattle.std.proofs.lemmas.List.{take_more, map-append, length-replicate, length-set}
use Rattle.std.proofs.lemmas.List.{length-append, get_or-map, get_or-set_same, get_or-set_other}
use Rattle.std.proofs.lemmas.List.{get_or-replicate, get_or_default}
use Rattle.std.proofs.lemmas.List.Elements.{filter-append, All-set}
use Rattle.std.proofs.lemmas.List.Filters.{length-filter_both}
use Rattle.std.proofs.lemmas.List.FromFn.{length-range_with_len}
use Rattle.std.proofs.lemmas.List.Quantifiers.{position-Some}
use Rattle.std.proofs.lemmas.Option.{slice_get-get_or}
use Rattle.name_table.specs.NameTable.{Table, IsTableOf, states, place_of}
use Rattle.relation_order.specs.Sets.{below, has}
use Rattle.relation_order.proofs.Saturation.{kept}
use Rattle.relation_order.proofs.Lists.{range-has}
use Rattle.symbol_binding.specs.declared.unbound.Unbound.{Unbound}
use Rattle.symbol_binding.specs.declared.unbound.Unbound.TheVariants.{Double}
use Rattle.provider_rel.specs.Items.{Item, item_name, is_named, doubles_with, item_doubles}
use Rattle.provider_rel.specs.Sharing.{stands_at, is_of, earlier_at, AreCounts, IsChain, last_of}
use Rattle.provider_rel.specs.Sharing.{AreLinked}
use Rattle.kernel_exports.proofs.NameSteps.{table-any, bytes-refl, bytes-same}

-- an item of a list has a place in the table
any-at : {X : Type 0} (p : X → Bool) (xs : List X) (k : ℕ) (d : X) → k < length xs
    → p (get_or xs k d) ≡ true → list_any p xs ≡ true
any-at p [] k d l e = absurd (omega arith)
any-at p (x ∷ xs) zero d l e = ap (λ b. b || list_any p xs) e
any-at p (x ∷ xs) (suc k) d l e =
    ap (λ b. p x || b) (any-at p xs k d (omega arith) e) ∙ always (p x)
  where
    always : (b : Bool) → (b || true) ≡ true
    always true = refl
    always false = refl

pub first-there : (names : Table) (is : List Item) (k : ℕ) (i : Item) (x : List ℕ)
    → IsTableOf names (map item_name is) → k < length is → i ≡ get_or is k i → x ≡ i.export.name
    → None ≡ place_of names x → ⊥
first-there names is k i x table within at same none =
    false≢true (ap is_some none
    ∙ table-any item_name (is_named x) x (λ j. refl) names is table
    ∙ any-at (is_named x) is k i within
    (ap (is_named x) (sym at) ∙ ap (λ n. bytes_eq n x) (sym same) ∙ bytes-refl x))

-- numbers below one more
range-push : (a n : ℕ) → range_with_len a (suc n) ≡ range_with_len a n ++ (a + n) ∷ []
range-push a zero = ap (λ b. b ∷ []) (sym (add-zero a))
range-push a (suc n) =
    let same : a + 1 + n ≡ a + suc n = omega arith in
    ap (λ l. a ∷ l) (range-push (a + 1) n ∙ ap (λ b. range_with_len (a + 1) n ++ b ∷ []) same)

below-more : (k : ℕ) → below (k + 1) ≡ below k ++ k ∷ []
below-more k =
    let same : 0 + k ≡ k = omega arith in
    ap below (add-one k) ∙ range-push 0 k ∙ ap (λ b. below k ++ b ∷ []) same

-- the last of a chain is one of its places, and none comes after it
last-has : (at : ℕ) (js : List ℕ) → has (at ∷ js) (last_of at js) ≡ true
last-has at [] = or_left _ _ (eq-eqb at at refl)
last-has at (j ∷ js) = or_right _ _ (last-has j js)

last-ge : (next : List ℕ) (at : ℕ) (js : List ℕ) → IsChain next at js → at ≤ last_of at js
last-ge next at [] c = omega arith
last-ge next at (j ∷ js) c = let l = last-ge next j js c.2 in let m = c.1 in omega arith

-- a change elsewhere leaves a chain as it is
chain-other : (next : List ℕ) (at : ℕ) (js : List ℕ) (e k : ℕ)
    → ((j : ℕ) → has (at ∷ js) j ≡ true → j ≢ e) → IsChain next at js → IsChain (set next e k) at js
chain-other next at [] e k other c =
    let same
    = get_or-set_other next e at k 0 (other at (or_left _ _ (eq-eqb at at refl))) in omega
    (arith, same, c)
chain-other next at (j ∷ js) e k other c = (
  get_or-set_other next e at k 0 (other at (or_left _ _ (eq-eqb at at refl))) ∙ c.0,
  c.1,
  chain-other next j js e k (λ i h. other i (or_right _ _ h)) c.2,
)

-- a place more behind the last
chain-push : (next : List ℕ) (at : ℕ) (js : List ℕ) (k : ℕ) → last_of at js < length next
    → last_of at js < k → get_or next k 0 ≤ k → IsChain next at js
    → IsChain (set next (last_of at js) k) at (js ++ k ∷ [])
chain-push next at [] k inside low end c =
    let ne : k ≢ at = omega arith in
    let same = get_or-set_other next at k k 0 ne in
    (get_or-set_same next at k 0 inside, low, omega (arith, same, end))
chain-push next at (j ∷ js) k inside low end c =
    let l = last-ge next j js c.2 in
    let m = c.1 in
    let ne : at ≢ last_of j js = omega arith in (
      get_or-set_other next (last_of j js) at k 0 ne ∙ c.0,
      c.1,
      chain-push next j js k inside low end c.2,
    )

-- what is left of a chain, one place later
pub chain-step : {L : Type 0} (line : ℕ → L) (next : List ℕ) (from at after : ℕ) (js : List ℕ)
    (start lines lines' : List L)
    → get_or next at 0 ≡ after → at < after → lines' ≡ lines ++ line at ∷ []
    → (rest : List ℕ) × IsChain next at rest × (last_of from js ≡ last_of at rest)
    × (lines ++ map line (at ∷ rest) ≡ start ++ map line (from ∷ js))
    → (rest : List ℕ) × IsChain next after rest × (last_of from js ≡ last_of after rest)
    × (lines' ++ map line (after ∷ rest) ≡ start ++ map line (from ∷ js))
chain-step {L} line next from at after js start lines lines' is more added w = go w.0 w.1 w.2 w.3
  where
    go : (rest : List ℕ) → IsChain next at rest → last_of from js ≡ last_of at rest
        → lines ++ map line (at ∷ rest) ≡ start ++ map line (from ∷ js)
        → (later : List ℕ) × IsChain next after later × (last_of from js ≡ last_of after later)
        × (lines' ++ map line (after ∷ later) ≡ start ++ map line (from ∷ js))
    go [] chain last same = absurd (omega (arith, is, more, chain))
    go (j ∷ rest) chain last same =
        let e : after ≡ j = sym is ∙ chain.0 in (
          rest,
          subst (λ n. IsChain next n rest) (sym e) chain.2,
          last ∙ ap (λ n. last_of n rest) (sym e),
          ap (λ l. l ++ map line (after ∷ rest)) added
              ∙ append_assoc lines (line at ∷ []) (map line (after ∷ rest))
              ∙ ap (λ n. lines ++ line at ∷ line n ∷ map line rest) e ∙ same,
        )

-- a chain at its last place
pub chain-end : {L : Type 0} (line : ℕ → L) (next : List ℕ) (from at after : ℕ) (js : List ℕ)
    (start lines lines' : List L)
    → get_or next at 0 ≡ after → after ≤ at → lines' ≡ lines ++ line at ∷ []
    → (rest : List ℕ) × IsChain next at rest × (last_of from js ≡ last_of at rest)
    × (lines ++ map line (at ∷ rest) ≡ start ++ map line (from ∷ js))
    → (at ≡ last_of from js) × (lines' ≡ start ++ map line (from ∷ js))
chain-end {L} line next from at after js start lines lines' is low added w = go w.0 w.1 w.2 w.3
  where
    go : (rest : List ℕ) → IsChain next at rest → last_of from js ≡ last_of at rest
        → lines ++ map line (at ∷ rest) ≡ start ++ map line (from ∷ js)
        → (at ≡ last_of from js) × (lines' ≡ start ++ map line (from ∷ js))
    go [] chain last same = (sym last, added ∙ same)
    go (j ∷ rest) chain last same
        = let e
        = chain.0 in let l
        = chain.1 in absurd (omega (arith, is, low, e, l))

module _ (names : Table) (is : List Item) (table : IsTableOf names (map item_name is)) where
  -- a place of the table states its name
  stated-there : (x : List ℕ) (p : ℕ) → place_of names x ≡ Some p
      → states x (get_or (map item_name is) p None) ≡ true
  stated-there x p at
      = (position-Some (states x) (map item_name is) p None (sym (table.places x) ∙ at)).1

  one-name : (o : Option (List ℕ)) (x y : List ℕ) → states x o ≡ true → states y o ≡ true → x ≡ y
  one-name None x y a b = absurd (false≢true a)
  one-name (Some n) x y a b = sym (bytes-same n x a) ∙ bytes-same n y b

  -- where a name stands, there stand just the items of that name
  stands-named : (x : List ℕ) (p : ℕ) → place_of names x ≡ Some p → (i : Item)
      → stands_at names p i ≡ is_named x i
  stands-named x p at i = go (is_named x i) refl (place_of names i.export.name) refl
    where
      go : (b : Bool) → is_named x i ≡ b → (o : Option ℕ) → place_of names i.export.name ≡ o
          → option_map_or (λ q. eqb q p) (place_of names i.export.name) false ≡ is_named x i
      go true named o there =
          ap (λ n. option_map_or (λ q. eqb q p) (place_of names n) false)
          (bytes-same i.export.name x named)
          ∙ ap (λ o. option_map_or (λ q. eqb q p) o false) at
          ∙ eq-eqb p p refl ∙ sym named
      go false named None there = ap (λ o. option_map_or (λ q. eqb q p) o false) there ∙ sym named
      go false named (Some q) there =
          ap (λ o. option_map_or (λ q. eqb q p) o false) there
          ∙ ne_eqb q p (λ same. false≢true
          (sym named
          ∙ ap (λ n. bytes_eq i.export.name n)
          (one-name (get_or (map item_name is) p None) x i.export.name
          (stated-there x p at)
          (stated-there i.export.name p (there ∙ ap Some same)))
          ∙ bytes-refl i.export.name))
          ∙ sym named

  -- the items of a name among the first ones
  pub earlier-named : (x : List ℕ) (p : ℕ) → place_of names x ≡ Some p → (d : Item) (k : ℕ)
      → k ≤ length is
      → filter (is_named x) (take k is) ≡ map (λ j. get_or is j d) (earlier_at is names k p)
  earlier-named x p at d zero short = refl
  earlier-named x p at d (suc k) short =
      let within : k < length is = omega arith in
      let y = get_or is k d in
      let test = λ (j : ℕ). option_map_or (stands_at names p) (slice_get is j) false in
      let now : test k ≡ is_named x y
      = ap (λ o. option_map_or (stands_at names p) o false) (slice_get-get_or is k d within)
      ∙ stands-named x p at y in
      ap (λ n. filter (is_named x) (take n is)) (sym (add-one k))
      ∙ ap (filter (is_named x)) (take_more is k d within)
      ∙ filter-append (is_named x) (take k is) (y ∷ [])
      ∙ ap (λ l. l ++ cond (is_named x y) (y ∷ []) []) (earlier-named x p at d k (omega arith))
      ∙ ap (λ l. map (λ j. get_or is j d) (earlier_at is names k p) ++ l) (one (is_named x y))
      ∙ sym (map-append (λ j. get_or is j d) (earlier_at is names k p)
      (cond (is_named x y) (k ∷ []) []))
      ∙ ap (map (λ j. get_or is j d))
      (ap (λ b. earlier_at is names k p ++ cond b (k ∷ []) []) (sym now)
      ∙ sym (filter-append test (below k) (k ∷ []))
      ∙ ap (filter test) (sym (below-more k) ∙ ap below (add-one k)))
    where
      one : (b : Bool)
          → cond b (get_or is k d ∷ []) [] ≡ map (λ j. get_or is j d) (cond b (k ∷ []) [])
      one true = refl
      one false = refl

  -- the places of a name below one more
  split : (k q : ℕ)
      → earlier_at is names (k + 1) q
      ≡ earlier_at is names k q ++ cond (is_of is names q k) (k ∷ []) []
  split k q
      = ap (filter (is_of is names q)) (below-more k)
      ∙ filter-append (is_of is names q) (below k) (k ∷ [])

  at-item : (k p q : ℕ) (i : Item) → k < length is → i ≡ get_or is k i
      → place_of names i.export.name ≡ Some p → is_of is names q k ≡ eqb p q
  at-item k p q i within is_i at =
      ap (λ o. option_map_or (stands_at names q) o false)
      (slice_get-get_or is k i within ∙ ap Some (sym is_i))
      ∙ ap (λ o. option_map_or (λ r. eqb r q) o false) at

  split-same : (k p : ℕ) (i : Item) → k < length is → i ≡ get_or is k i
      → place_of names i.export.name ≡ Some p
      → earlier_at is names (k + 1) p ≡ earlier_at is names k p ++ k ∷ []
  split-same k p i within is_i at
      = split k p
      ∙ ap (λ b. earlier_at is names k p ++ cond b (k ∷ []) [])
      (at-item k p p i within is_i at ∙ eq-eqb p p refl)

  split-other : (k p q : ℕ) (i : Item) → k < length is → i ≡ get_or is k i
      → place_of names i.export.name ≡ Some p → q ≢ p
      → earlier_at is names (k + 1) q ≡ earlier_at is names k q
  split-other k p q i within is_i at ne =
      split k q
      ∙ ap (λ b. earlier_at is names k q ++ cond b (k ∷ []) [])
      (at-item k p q i within is_i at ∙ ne_eqb p q (λ e. ne (sym e)))
      ∙ append-nil (earlier_at is names k q)

  -- a name isn't first exported after an item that has it
  no-later : (k p : ℕ) (i : Item) → k < length is → i ≡ get_or is k i
      → place_of names i.export.name ≡ Some p → p ≤ k
  no-later k p i within is_i at =
      elim (cases_lt k p) [
        | inl l ↦
            let none
            = (position-Some (states i.export.name) (map item_name is) p None
            (sym (table.places i.export.name) ∙ at)).2 k l in
            let own : get_or (map item_name is) k None ≡ Some i.export.name
            = get_or-map item_name is k i None within ∙ ap item_name (sym is_i) in
            absurd
            (false≢true (sym none ∙ ap (states i.export.name) own ∙ bytes-refl i.export.name))
        | inr h ↦ h
      ]

  -- where a name is first exported it stands
  own-place : (x : List ℕ) (p : ℕ) (d : Item) → place_of names x ≡ Some p → p < length is
      → place_of names (get_or is p d).export.name ≡ Some p
  own-place x p d at inside =
      ap (place_of names)
      (bytes-same (get_or is p d).export.name x
      (ap (states x) (sym (get_or-map item_name is p d None inside))
      ∙ stated-there x p at))
      ∙ at

  -- the item at a place of a name has that name
  passes-is : (p j : ℕ) (d : Item) → j < length is → is_of is names p j ≡ true
      → place_of names (get_or is j d).export.name ≡ Some p
  passes-is p j d within h = go (place_of names (get_or is j d).export.name) refl
    where
      seen : option_map_or (λ q. eqb q p) (place_of names (get_or is j d).export.name) false ≡ true
      seen
          = ap (λ o. option_map_or (stands_at names p) o false)
          (sym (slice_get-get_or is j d within))
          ∙ h

      go : (o : Option ℕ) → place_of names (get_or is j d).export.name ≡ o
          → place_of names (get_or is j d).export.name ≡ Some p
      go None e
          = absurd (false≢true (ap (λ o. option_map_or (λ q. eqb q p) o false) (sym e) ∙ seen))
      go (Some q) e
          = e
          ∙ ap Some
          (eqb-true q p (ap (λ o. option_map_or (λ q. eqb q p) o false) (sym e) ∙ seen))

  member : (k p j : ℕ) → has (earlier_at is names k p) j ≡ true
      → (is_of is names p j ≡ true) × (j < k)
  member k p j h
      = let e
      = kept (is_of is names p) (below k) j h in let l
      = (range-has 0 k j e.1).1 in (e.0, omega arith)

  -- no item before a place has a name that is first exported there
  pub none-before : (p : ℕ) (d : Item) (k : ℕ) → k ≤ p → k ≤ length is
      → earlier_at is names k p ≡ []
  none-before p d zero low short = refl
  none-before p d (suc k) low short =
      ap (λ n. earlier_at is names n p) (sym (add-one k)) ∙ split k p
      ∙ ap (λ l. l ++ cond (is_of is names p k) (k ∷ []) [])
      (none-before p d k (omega arith) (omega arith))
      ∙ go (is_of is names p k) refl
    where
      go : (b : Bool) → is_of is names p k ≡ b → cond (is_of is names p k) (k ∷ []) [] ≡ []
      go true e =
          let within : k < length is = omega arith in
          let i = get_or is k d in
          let l = no-later k p i within (same within) (passes-is p k d within e) in
          absurd (omega arith)
        where
          same : k < length is → get_or is k d ≡ get_or is k (get_or is k d)
          same within = get_or_default is k d (get_or is k d) within
      go false e = ap (λ b. cond b (k ∷ []) []) e

  -- the first place of a name comes first
  pub head : (x : List ℕ) (p : ℕ) (d : Item) → place_of names x ≡ Some p → (k : ℕ) → p < k
      → k ≤ length is → (js : List ℕ) × (earlier_at is names k p ≡ p ∷ js)
  head x p d at zero low short = absurd (omega arith)
  head x p d at (suc k) low short =
      let more : earlier_at is names (suc k) p
      ≡ earlier_at is names k p ++ cond (is_of is names p k) (k ∷ []) []
      = ap (λ n. earlier_at is names n p) (sym (add-one k)) ∙ split k p in
      elim (cases_eq p k) [
        | inl e ↦
            let inside : p < length is = omega arith in
            let own : is_of is names p p ≡ true =
            at-item p p p (get_or is p d) inside (get_or_default is p d (get_or is p d) inside)
            (own-place x p d at inside)
            ∙ eq-eqb p p refl in (
              [],
              more
                  ∙ ap (λ n. earlier_at is names n p ++ cond (is_of is names p n) (n ∷ []) [])
                  (sym e)
                  ∙ ap (λ l. l ++ cond (is_of is names p p) (p ∷ []) [])
                  (none-before p d p (omega arith) (omega arith))
                  ∙ ap (λ b. cond b (p ∷ []) []) own,
            )
        | inr ne ↦
            let w = head x p d at k (omega arith) (omega arith) in (
              w.0 ++ cond (is_of is names p k) (k ∷ []) [],
              more ∙ ap (λ l. l ++ cond (is_of is names p k) (k ∷ []) []) w.1,
            )
      ]

  -- the counts with an item more
  pub counts-more : (k p : ℕ) (i : Item) (counts : List ℕ) → k < length is → p < length is
      → i ≡ get_or is k i → place_of names i.export.name ≡ Some p → AreCounts is names k counts
      → AreCounts is names (k + 1) (set counts p (get_or counts p 0 + 1))
  counts-more k p i counts within inside is_i at c =
      record {
        long = length-set counts p (get_or counts p 0 + 1) ∙ c.long;
        counts_are = λ q l. elim (cases_eq q p) [
          | inl e ↦
              let new : get_or (set counts p (get_or counts p 0 + 1)) p 0 ≡ get_or counts p 0 + 1
              = get_or-set_same counts p (get_or counts p 0 + 1) 0 (omega (arith, c.long)) in
              ap (λ r. get_or (set counts p (get_or counts p 0 + 1)) r 0) e ∙ new
              ∙ ap (λ n. n + 1) (c.counts_are p inside)
              ∙ sym (length-append (earlier_at is names k p) (k ∷ []))
              ∙ ap length (sym (split-same k p i within is_i at))
              ∙ ap (λ r. length (earlier_at is names (k + 1) r)) (sym e)
          | inr ne ↦ get_or-set_other counts p q (get_or counts p 0 + 1) 0 ne ∙ c.counts_are q l
              ∙ ap length (sym (split-other k p q i within is_i at ne))
        ];
      }

  -- a chain with the first item of a name
  pub linked-first : (k p : ℕ) (i : Item) (next : List ℕ) → k < length is → i ≡ get_or is k i
      → place_of names i.export.name ≡ Some p → k ≤ p → AreLinked is names k next
      → AreLinked is names (k + 1) next
  linked-first k p i next within is_i at low linked =
      record {
        long = linked.long;
        inside = linked.inside;
        chains = chains';
        ends = λ j l. linked.ends j (omega arith);
      }
    where
      first : p ≡ k
      first = let h = no-later k p i within is_i at in omega arith

      chains' : (q : ℕ) (js : List ℕ) → earlier_at is names (k + 1) q ≡ q ∷ js → IsChain next q js
      chains' q js e =
          elim (cases_eq q p) [
            | inl s ↦
                let one : k ∷ [] ≡ q ∷ js
                = ap (λ l. l ++ k ∷ []) (sym (none-before p i k low (omega arith)))
                ∙ sym (split-same k p i within is_i at)
                ∙ ap (earlier_at is names (k + 1)) (sym s) ∙ e in
                let empty : js ≡ [] = cc in
                subst (IsChain next q) (sym empty) (linked.ends q (let f = first in omega arith))
            | inr ne ↦ linked.chains q js (sym (split-other k p q i within is_i at ne) ∙ e)
          ]

  -- a chain with one more of its name
  pub linked-more : (k p : ℕ) (i : Item) (js : List ℕ) (next : List ℕ) → k < length is
      → i ≡ get_or is k i → place_of names i.export.name ≡ Some p → earlier_at is names k p ≡ p ∷ js
      → AreLinked is names k next → AreLinked is names (k + 1) (set next (last_of p js) k)
  linked-more k p i js next within is_i at are linked =
      record {
        long = length-set next (last_of p js) k ∙ linked.long;
        inside = All-set (λ j. j < length is) next (last_of p js) k within linked.inside;
        chains = chains';
        ends
            = λ j l. let ne : j ≢ last_of p js
            = omega (arith, last-low) in let s
            = get_or-set_other next (last_of p js) j k 0 ne in let old
            = linked.ends j (omega arith) in omega arith;
      }
    where
      last-member : (is_of is names p (last_of p js) ≡ true) × (last_of p js < k)
      last-member = member k p (last_of p js) (ap (λ l. has l (last_of p js)) are ∙ last-has p js)

      last-low : last_of p js < k
      last-low = last-member.1

      -- nothing has two names
      other-name : (q j : ℕ) → q ≢ p → has (earlier_at is names k q) j ≡ true → j ≢ last_of p js
      other-name q j ne h e =
          let m = member k q j h in
          let low = m.1 in
          let here : j < length is = omega arith in
          let theirs = passes-is q j i here m.0 in
          let ours = passes-is p j i here (ap (is_of is names p) e ∙ last-member.0) in
          let both : ◌≡◌ {A = Option ℕ} (Some q) (Some p) = sym theirs ∙ ours in
          ne (cc)

      chains' : (q : ℕ) (ks : List ℕ) → earlier_at is names (k + 1) q ≡ q ∷ ks
          → IsChain (set next (last_of p js) k) q ks
      chains' q ks e =
          elim (cases_eq q p) [
            | inl s ↦
                let all : p ∷ (js ++ k ∷ []) ≡ q ∷ ks
                = ap (λ l. l ++ k ∷ []) (sym are) ∙ sym (split-same k p i within is_i at)
                ∙ ap (earlier_at is names (k + 1)) (sym s) ∙ e in
                let rest : js ++ k ∷ [] ≡ ks = cc in
                let new
                = chain-push next p js k (omega (arith, last-low, linked.long)) last-low
                (linked.ends k (omega arith)) (linked.chains p js are) in
                subst (λ r. IsChain (set next (last_of p js) k) r ks) (sym s)
                (subst (IsChain (set next (last_of p js) k) p) rest new)
            | inr ne ↦
                let old : earlier_at is names k q ≡ q ∷ ks
                = sym (split-other k p q i within is_i at ne) ∙ e in
                chain-other next q ks (last_of p js) k
                (λ j h. other-name q j ne (ap (λ l. has l j) old ∙ h)) (linked.chains q ks old)
          ]

  -- the double lines of an item, by the places of its name
  pub item-doubles : (k p : ℕ) (i : Item) → k < length is → place_of names i.export.name ≡ Some p
      → map (λ j. Double i.export.name (get_or is j i).path i.path) (earlier_at is names k p)
      ≡ doubles_with (take k is) i
  item-doubles k p i within at =
      map-map (earlier_at is names k p)
      ∙ ap (map (λ (b : Item). Double i.export.name b.path i.path))
      (sym (earlier-named i.export.name p at i k (omega arith)))
    where
      map-map : (js : List ℕ)
          → map (λ j. Double i.export.name (get_or is j i).path i.path) js
          ≡ map (λ (b : Item). Double i.export.name b.path i.path) (map (λ j. get_or is j i) js)
      map-map [] = refl
      map-map (j ∷ js) = ap (λ l. Double i.export.name (get_or is j i).path i.path ∷ l) (map-map js)

  -- no more of them than items
  pub earlier-short : (k p : ℕ) → length (earlier_at is names k p) ≤ k
  earlier-short k p
      = omega (
        arith,
        length-filter_both (is_of is names p) (λ j. not (is_of is names p j)) (λ j. refl)
            (below k),
        length-range_with_len 0 k,
      )

  -- where nothing was looked at yet
  pub counts-none : AreCounts is names 0 (replicate (length is) 0)
  counts-none
      = record {
        long = length-replicate (length is) 0;
        counts_are = λ p l. get_or-replicate (length is) p 0 0 l;
      }

  pub linked-none : AreLinked is names 0 (replicate (length is) 0)
  linked-none =
      record {
        long = length-replicate (length is) 0;
        inside = below-count;
        chains = λ p js e. absurd (not-empty p js e);
        ends = λ j l. let z = zeros-at (length is) j in omega arith;
      }
    where
      not-empty : (p : ℕ) (js : List ℕ) → [] ≡ p ∷ js → ⊥
      not-empty p js e = cc

      below-count : All (λ j. j < length is) (replicate (length is) 0)
      below-count i d l =
          let long = length-replicate {A = ℕ} (length is) 0 in
          let z = get_or-replicate (length is) i 0 d (omega arith) in
          omega (arith, z, l, long)

      zeros-at : (n j : ℕ) → ◌≡◌ {A = ℕ} (get_or (replicate n 0) j 0) 0
      zeros-at zero j = refl
      zeros-at (suc n) zero = refl
      zeros-at (suc n) (suc j) = zeros-at n j

-- the double lines with an item more
pub doubles-push : (before xs : List Item) (y : Item)
    → item_doubles before (xs ++ y ∷ []) ≡ item_doubles before xs ++ doubles_with (before ++ xs) y
doubles-push before [] y =
    append-nil (doubles_with before y) ∙ ap (λ l. doubles_with l y) (sym (append-nil before))
doubles-push before (x ∷ xs) y =
    ap (λ l. doubles_with before x ++ l)
    (doubles-push (before ++ x ∷ []) xs y
    ∙ ap (λ l. item_doubles (before ++ x ∷ []) xs ++ doubles_with l y)
    (append_assoc before (x ∷ []) xs))
    ∙ sym (append_assoc (doubles_with before x) (item_doubles (before ++ x ∷ []) xs)
    (doubles_with (before ++ x ∷ xs) y))

-- the same of a front of a list
pub doubles-more : (is : List Item) (k : ℕ) (i : Item) → k < length is → i ≡ get_or is k i
    → item_doubles [] (take (k + 1) is) ≡ item_doubles [] (take k is) ++ doubles_with (take k is) i
doubles-more is k i within at =
    ap (item_doubles []) (take_more is k i within ∙ ap (λ y. take k is ++ y ∷ []) (sym at))
    ∙ doubles-push [] (take k is) i

-- the lines with those of an item more
pub lines-more : (names : Table) (is : List Item) → IsTableOf names (map item_name is)
    → (k p : ℕ) (i : Item) (ks : List ℕ) (before old new : List Unbound) → k < length is
    → i ≡ get_or is k i → place_of names i.export.name ≡ Some p
    → earlier_at is names k p ≡ ks
    → new ≡ old ++ map (λ j. Double i.export.name (get_or is j i).path i.path) ks
    → old ≡ before ++ item_doubles [] (take k is)
    → new ≡ before ++ item_doubles [] (take (k + 1) is)
lines-more names is table k p i ks before old new within is_i at are more so_far =
    more
    ∙ ap (λ l. old ++ map (λ j. Double i.export.name (get_or is j i).path i.path) l) (sym are)
    ∙ ap (λ l. old ++ l) (item-doubles names is table k p i within at)
    ∙ ap (λ l. l ++ doubles_with (take k is) i) so_far
    ∙ append_assoc before (item_doubles [] (take k is)) (doubles_with (take k is) i)
    ∙ ap (λ l. before ++ l) (sym (doubles-more is k i within is_i))
