-- Names that occur once, with one more item at a time.
use Rattle.std.proofs.Common.{◌≡◌, ℕ, ◌+◌, ◌<◌, Bool, true, false, not, ◌&&◌, ◌||◌, List, [], ◌∷◌}
use Rattle.std.proofs.Common.{◌++◌, length, map, take, drop, get_or, Option, Some, is_some, refl}
use Rattle.std.proofs.Common.{sym, ap, subst, ◌∙◌, true≢false, ◌≤◌, inl, inr, arith}
use Rattle.std.proofs.lemmas.Bool.{cases_Bool, not_from_false, and_from, not-true}
use Rattle.std.proofs.lemmas.Map.Made.{length-le_from_is_member}
use Rattle.std.proofs.lemmas.Slice.Eq.{bytes_eq-Decides}
use Rattle.std.proofs.lemmas.List.{take_more, drop_more, take-append-drop, map-append}
use Rattle.std.proofs.lemmas.List.Folds.{list_any-append, list_all-map, list_all_at, list_all_more}
use Rattle.std.proofs.lemmas.Cmp.{nat_list_eq_equiv}
use Rattle.std.specs.List.{AllByRecursion, IsDistinct, list_all, list_any}
use Rattle.std.specs.Str.{bytes_eq}
use Rattle.name_table.specs.FirstSeen.{is_among}
use Rattle.sheet_object.specs.Sheet.{are_chosen, are_distinct}
use Rattle.name_table.specs.NameTable.{Table, IsTableOf, place_of}
use Rattle.sheet_object.proofs.NameLemmas.{is_among-first_place}

both : (a b : Bool) → (a && b) ≡ true → (a ≡ true) × (b ≡ true)
both true b h = (refl, h)
both false b h = absurd (true≢false (sym h))

neither : (a b : Bool) → (a || b) ≡ false → (a ≡ false) × (b ≡ false)
neither false b h = (refl, h)
neither true b h = absurd (true≢false h)

and-false : (b : Bool) → (b && false) ≡ false
and-false true = refl
and-false false = refl

or-true : (b : Bool) → (b || true) ≡ true
or-true true = refl
or-true false = refl

-- of names that are distinct, and one more
pub distinct-push : (names : List (List ℕ)) (n : List ℕ) → are_distinct names ≡ true
    → is_among names n ≡ false → are_distinct (names ++ n ∷ []) ≡ true
distinct-push [] n d a = refl
distinct-push (x ∷ xs) n d a =
    let w = both (not (is_among xs x)) (are_distinct xs) d in
    let v = neither (bytes_eq n x) (is_among xs n) a in
    let none : is_among xs x ≡ false = not-true (is_among xs x) w.0 in
    let other : bytes_eq x n ≡ false = nat_list_eq_equiv.symm x n ∙ v.0 in
    let still : is_among (xs ++ n ∷ []) x ≡ false =
    list_any-append (bytes_eq x) xs (n ∷ []) ∙ (λ i. none i || (other i || false)) in
    and_from (not (is_among (xs ++ n ∷ []) x)) (are_distinct (xs ++ n ∷ []))
    (not_from_false (is_among (xs ++ n ∷ []) x) still) (distinct-push xs n w.1 v.1)

-- names that are distinct, as the test has them
told-apart : (names : List (List ℕ)) → are_distinct names ≡ true → IsDistinct bytes_eq names
unfolding IsDistinct
told-apart [] distinct = tt
told-apart (x ∷ xs) distinct =
    let w = both (not (is_among xs x)) (are_distinct xs) distinct in
    (apart xs (not-true (is_among xs x) w.0), told-apart xs w.1)
  where
    apart : (ys : List (List ℕ)) → is_among ys x ≡ false
        → AllByRecursion (λ y. bytes_eq x y ≡ false) ys
    apart [] none = tt
    apart (y ∷ ys) none = let w = neither (bytes_eq x y) (is_among ys x) none in (w.0, apart ys w.1)

-- a name is one of the others where each of the names is
among-too : (others names : List (List ℕ)) (q : List ℕ) → list_all (is_among others) names ≡ true
    → is_among names q ≡ true → is_among others q ≡ true
among-too others [] q all there = absurd (true≢false (sym there))
among-too others (x ∷ xs) q all there =
    let w = both (is_among others x) (list_all (is_among others) xs) all in
    elim (cases_Bool (bytes_eq q x)) [
      | inl same ↦ ap (is_among others) ((bytes_eq-Decides q x).0 same) ∙ w.0
      | inr other ↦ among-too others xs q w.1 (sym (ap (λ b. b || is_among xs q) other) ∙ there)
    ]

-- distinct names that are among others are no more than these
pub chosen-few : (others names : List (List ℕ)) → are_chosen others names ≡ true
    → length names ≤ length others
chosen-few others names chosen =
    let w = both (are_distinct names) (list_all (is_among others) names) chosen in
    length-le_from_is_member nat_list_eq_equiv names others (told-apart names w.0)
    (λ q there. among-too others names q w.1 there)

-- and more names than others aren't
pub chosen-not : (others names : List (List ℕ)) → length others < length names
    → are_chosen others names ≡ false
chosen-not others names more =
    elim (cases_Bool (are_chosen others names)) [
      | inl chosen ↦ absurd (omega (arith, more, chosen-few others names chosen))
      | inr is ↦ is
    ]

-- a name that is there twice
twice-by : (b : Bool) (x n : List ℕ) (xs rest : List (List ℕ)) → bytes_eq n x ≡ b
    → (bytes_eq n x || is_among xs n) ≡ true
    → (is_among xs n ≡ true → are_distinct (xs ++ n ∷ rest) ≡ false)
    → (not (is_among (xs ++ n ∷ rest) x) && are_distinct (xs ++ n ∷ rest)) ≡ false
twice-by true x n xs rest e a later =
    let here : is_among (xs ++ n ∷ rest) x ≡ true =
    list_any-append (bytes_eq x) xs (n ∷ rest)
    ∙ ap (λ b. list_any (bytes_eq x) xs || (b || list_any (bytes_eq x) rest))
    (nat_list_eq_equiv.symm x n ∙ e)
    ∙ or-true (list_any (bytes_eq x) xs) in
    ap (λ b. not b && are_distinct (xs ++ n ∷ rest)) here
twice-by false x n xs rest e a later =
    ap (λ b. not (is_among (xs ++ n ∷ rest) x) && b)
    (later (ap (λ b. b || is_among xs n) (sym e) ∙ a))
    ∙ and-false (not (is_among (xs ++ n ∷ rest) x))

twice : (names : List (List ℕ)) (n : List ℕ) (rest : List (List ℕ)) → is_among names n ≡ true
    → are_distinct (names ++ n ∷ rest) ≡ false
twice [] n rest a = absurd (true≢false (sym a))
twice (x ∷ xs) n rest a = twice-by (bytes_eq n x) x n xs rest refl a (twice xs n rest)

module _ {X : Type 0} (f : X → List ℕ) (items : List X) (i : ℕ) (x : X) (within : i < length items)
    (is : x ≡ get_or items i x) where
  pub names-more : map f (take (i + 1) items) ≡ map f (take i items) ++ f x ∷ []
  names-more =
      ap (map f) (take_more items i x within ∙ ap (λ y. take i items ++ y ∷ []) (sym is))
      ∙ map-append f (take i items) (x ∷ [])

  names-split : map f items ≡ map f (take i items) ++ f x ∷ map f (drop (i + 1) items)
  names-split =
      ap (map f) (sym (take-append-drop i items))
      ∙ map-append f (take i items) (drop i items)
      ∙ ap (λ r. map f (take i items) ++ map f r) (drop_more items i x within)
      ∙ ap (λ (y : X). map f (take i items) ++ f y ∷ map f (drop (i + 1) items)) (sym is)

  -- the table of the names so far, with one more
  pub table-more : (t : Table) (name : List ℕ) → name ≡ f x
      → IsTableOf t (map (λ n. Some n) (map f (take i items)) ++ Some name ∷ [])
      → IsTableOf t (map (λ n. Some n) (map f (take (i + 1) items)))
  table-more t name same is =
      subst (IsTableOf t)
      (ap (λ n. map (λ n. Some n) (map f (take i items)) ++ Some n ∷ []) same
      ∙ sym (ap (map (λ n. Some n)) names-more
      ∙ map-append (λ n. Some n) (map f (take i items)) (f x ∷ [])))
      is

  module _ (t : Table) (name : List ℕ) (found : Option ℕ) (none : Bool) (same : name ≡ f x)
      (place : found ≡ place_of t name) (some : is_some found ≡ not none) where
    there : (others : List (List ℕ)) → IsTableOf t (map (λ n. Some n) others)
        → is_among others (f (get_or items i x)) ≡ not none
    there others table =
        ap (λ (y : X). is_among others (f y)) (sym is)
        ∙ ap (is_among others) (sym same)
        ∙ sym (ap is_some (place ∙ table.places name) ∙ is_among-first_place others name)
        ∙ some

    -- an item whose name is one of the others
    pub known-more : (others : List (List ℕ)) → IsTableOf t (map (λ n. Some n) others)
        → none ≡ false
        → list_all (is_among others) (map f (take i items)) ≡ true
        → list_all (is_among others) (map f (take (i + 1) items)) ≡ true
    known-more others table was all =
        list_all-map (is_among others) f (take (i + 1) items)
        ∙ list_all_more (λ (y : X). is_among others (f y)) items i x within
        ∙ and_from _ _ (sym (list_all-map (is_among others) f (take i items)) ∙ all)
        (there others table ∙ ap not was)

    -- and one whose name isn't
    pub known-not : (others : List (List ℕ)) → IsTableOf t (map (λ n. Some n) others) → none ≡ true
        → false ≡ list_all (is_among others) (map f items)
    known-not others table was =
        sym
        (list_all-map (is_among others) f items
        ∙ list_all_at (λ (y : X). is_among others (f y)) items i x within
        (there others table ∙ ap not was))

  module _ (t : Table) (name : List ℕ) (found : Option ℕ) (seen : Bool) (same : name ≡ f x)
      (place : found ≡ place_of t name) (some : seen ≡ is_some found)
      (so_far : IsTableOf t (map (λ n. Some n) (map f (take i items)))) where
    before : is_among (map f (take i items)) (f x) ≡ seen
    before =
        ap (is_among (map f (take i items))) (sym same)
        ∙ sym (ap is_some (place ∙ so_far.places name)
        ∙ is_among-first_place (map f (take i items)) name)
        ∙ sym some

    -- a name that was seen
    pub seen-twice : seen ≡ true → false ≡ are_distinct (map f items)
    seen-twice was =
        sym (ap are_distinct names-split
        ∙ twice (map f (take i items)) (f x) (map f (drop (i + 1) items)) (before ∙ was))

    -- and one that wasn't
    pub seen-once : seen ≡ false → are_distinct (map f (take i items)) ≡ true
        → are_distinct (map f (take (i + 1) items)) ≡ true
    seen-once was distinct =
        ap are_distinct names-more
        ∙ distinct-push (map f (take i items)) (f x) distinct (before ∙ was)
