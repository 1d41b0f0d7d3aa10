-- The least order of rising members, found by their places.
use Rattle.std.proofs.Common.{◌≡◌, ℕ, zero, suc, ◌+◌, ◌<◌, ◌≤◌, Bool, true, false, eqb, List, []}
use Rattle.std.proofs.Common.{◌∷◌, ◌++◌, length, take, map, get_or, Option, Some, None, sym, refl}
use Rattle.std.proofs.Common.{ap, ◌∙◌, subst, inl, inr, arith}
use Rattle.std.specs.Prelude.{◌||◌, ◌⊎◌, ◌&&◌, not, All, Result, Ok, Err, MatchResult}
use Rattle.std.specs.Result.{result_ok}
use Rattle.std.specs.Ordering.{nat_cmp}
use Rattle.std.specs.List.Sorted.{IsBinarySearchResult}
use Rattle.std.proofs.lemmas.List.Sorted.{searched}
use Rattle.std.proofs.lemmas.Bool.Decides.{nat_tests}
use Rattle.std.specs.List.{list_all, find, range_with_len}
use Rattle.std.specs.Option.{option_map, option_to_list}
use Rattle.std.proofs.lemmas.Bool.{true≢false, cases_lt, cases_order, false_from_ne_true, or_cases}
use Rattle.std.proofs.lemmas.Bool.{or_left, or_right, eqb-true, eq-eqb}
use Rattle.std.proofs.lemmas.List.{append-nil, map-append, get_or_default}
use Rattle.std.proofs.lemmas.List.FromFn.{length-range_with_len}
use Rattle.std.specs.Global.{Vec}
use Rattle.relation_order.specs.Sets.{Relation, has, below, times, successors, goes}
use Rattle.relation_order.specs.Least.{is_ready, with_next, least_order}
use Rattle.relation_order.proofs.Lists.{range-has, has-at, all-has}
use Rattle.relation_order.proofs.PlaceSteps.{has-insert_key, all-within}
use Rattle.std.specs.BTreeSet.{insert_key}
use Rattle.std.specs.Ordering.{match_ordering}
use Rattle.std.specs.declared.cmp.Ordering.TheVariants.{Less, Equal, Greater}
use Rattle.std.proofs.lemmas.List.Folds.{list_any_more}
use Rattle.relation_order.proofs.LeastLaws.{find-some, push-has}
use Rattle.relation_order.proofs.Ordered.{first-place}
use Rattle.relation_order.proofs.Restricted.{same-tests}
use Rattle.plan_order.specs.Finding.{Rises}
use Rattle.plan_order.specs.Places.{IsPlaceIn}
use Rattle.plan_order.proofs.Lists.{find-same, find-map, all-same, all-map, map-option, rises-once}
use Rattle.plan_order.proofs.Lists.{rises-at}

map-from : (f : ℕ → ℕ) (xs : List ℕ) (a : ℕ) → ((i : ℕ) → i < length xs → f (a + i) ≡ get_or xs i 0)
    → map f (range_with_len a (length xs)) ≡ xs
map-from f [] a same = refl
map-from f (x ∷ xs) a same =
    let e : a + 0 ≡ a = omega arith in
    let head : f a ≡ x = ap f (sym e) ∙ same 0 (omega arith) in
    let rest : map f (range_with_len (a + 1) (length xs)) ≡ xs
    = map-from f xs (a + 1)
    (λ i l. let s : (a + 1) + i ≡ a + suc i
    = omega arith in ap f s ∙ same (suc i) (omega arith)) in
    λ i. head i ∷ rest i

module _ (r q : Relation) (members : List ℕ) (up : Rises members)
    (like : (i j : ℕ) → i < length members → j < length members
    → q i j ≡ r (get_or members i 0) (get_or members j 0)) where
  members-are : map (λ i. get_or members i 0) (below (length members)) ≡ members
  members-are
      = map-from (λ i. get_or members i 0) members 0
      (λ i l. ap (λ k. get_or members k 0) (let e : 0 + i ≡ i = omega arith in e))

  place-low : (i : ℕ) → has (below (length members)) i ≡ true → i < length members
  place-low i h = let w = range-has 0 (length members) i h in omega arith

  -- an item has its place
  has-place : (listed : List ℕ) (i : ℕ) → ((y : ℕ) → has listed y ≡ true → y < length members)
      → i < length members
      → has (map (λ i. get_or members i 0) listed) (get_or members i 0) ≡ has listed i
  has-place [] i low l = refl
  has-place (j ∷ listed) i low l =
      let k = low j (or_left _ _ (eq-eqb j j refl)) in
      ap (λ b. b || has (map (λ i. get_or members i 0) listed) (get_or members i 0))
      (same-tests (eqb (get_or members i 0) (get_or members j 0)) (eqb i j)
      (λ s. eq-eqb i j (rises-once members up i j l k (eqb-true _ _ s)))
      (λ s. eq-eqb _ _ (ap (λ i. get_or members i 0) (eqb-true i j s))))
      ∙ ap (λ b. eqb i j || b) (has-place listed i (λ y h. low y (or_right _ _ h)) l)

  ready-same : (listed : List ℕ) → ((y : ℕ) → has listed y ≡ true → y < length members) → (i : ℕ)
      → i < length members
      → is_ready r members (map (λ i. get_or members i 0) listed) (get_or members i 0)
      ≡ is_ready q (below (length members)) listed i
  ready-same listed low i l =
      ap (λ b. not b
      && list_all (λ y. not (r (get_or members i 0) y)
      || has (map (λ i. get_or members i 0) listed) y) members)
      (has-place listed i low l)
      ∙ ap (λ xs. not (has listed i)
      && list_all
      (λ y. not (r (get_or members i 0) y) || has (map (λ i. get_or members i 0) listed) y)
      xs) (sym members-are)
      ∙ ap (λ b. not (has listed i) && b)
      (all-map (λ y. not (r (get_or members i 0) y) || has (map (λ i. get_or members i 0) listed) y)
      (λ i. get_or members i 0) (below (length members))
      ∙ all-same (λ j. not (r (get_or members i 0) (get_or members j 0))
      || has (map (λ i. get_or members i 0) listed) (get_or members j 0))
      (λ j. not (q i j) || has listed j) (below (length members))
      (λ j h. ap (λ b. not b || has (map (λ i. get_or members i 0) listed) (get_or members j 0))
      (sym (like i j l (place-low j h)))
      ∙ ap (λ b. not (q i j) || b) (has-place listed j low (place-low j h))))

  next-same : (listed : List ℕ) → ((y : ℕ) → has listed y ≡ true → y < length members)
      → with_next r members (map (λ i. get_or members i 0) listed)
      ≡ map (λ i. get_or members i 0) (with_next q (below (length members)) listed)
  next-same listed low =
      ap (λ o. map (λ i. get_or members i 0) listed ++ option_to_list o)
      (ap (find (is_ready r members (map (λ i. get_or members i 0) listed))) (sym members-are)
      ∙ find-map (is_ready r members (map (λ i. get_or members i 0) listed))
      (λ i. get_or members i 0) (below (length members))
      ∙ ap (option_map (λ i. get_or members i 0))
      (find-same
      (λ i. is_ready r members (map (λ i. get_or members i 0) listed) (get_or members i 0))
      (is_ready q (below (length members)) listed) (below (length members))
      (λ i h. ready-same listed low i (place-low i h))))
      ∙ ap (λ ys. map (λ i. get_or members i 0) listed ++ ys)
      (map-option (λ i. get_or members i 0)
      (find (is_ready q (below (length members)) listed) (below (length members))))
      ∙ sym (map-append (λ i. get_or members i 0) listed
      (option_to_list
      (find (is_ready q (below (length members)) listed) (below (length members)))))

  next-low : (listed : List ℕ) → ((y : ℕ) → has listed y ≡ true → y < length members) → (y : ℕ)
      → has (with_next q (below (length members)) listed) y ≡ true → y < length members
  next-low listed low y h
      = go (find (is_ready q (below (length members)) listed) (below (length members))) refl h
    where
      go : (o : Option ℕ)
          → find (is_ready q (below (length members)) listed) (below (length members)) ≡ o
          → has (listed ++ option_to_list o) y ≡ true → y < length members
      go None e h = low y (ap (λ xs. has xs y) (sym (append-nil listed)) ∙ h)
      go (Some x) e h =
          elim (or_cases (has listed y) (eqb y x) (sym (push-has listed x y) ∙ h)) [
            | inl m ↦ low y m
            | inr s ↦ subst (λ z. z < length members) (sym (eqb-true y x s))
                (place-low x (find-some (is_ready q (below (length members)) listed)
                (below (length members)) x e).0)
          ]

  times-low : (k y : ℕ) → has (times k (with_next q (below (length members))) []) y ≡ true
      → y < length members
  times-low zero y h = absurd (true≢false (sym h))
  times-low (suc k) y h
      = next-low (times k (with_next q (below (length members))) []) (times-low k) y h

  times-same : (k : ℕ)
      → times k (with_next r members) []
      ≡ map (λ i. get_or members i 0) (times k (with_next q (below (length members))) [])
  times-same zero = refl
  times-same (suc k)
      = ap (with_next r members) (times-same k)
      ∙ next-same (times k (with_next q (below (length members))) []) (times-low k)

  -- the order of the places is that of the members
  pub order-places : map (λ i. get_or members i 0) (least_order q (below (length members)))
      ≡ least_order r members
  unfolding least_order
  order-places =
      ap (λ n. map (λ i. get_or members i 0) (times n (with_next q (below (length members))) []))
      (length-range_with_len 0 (length members))
      ∙ sym (times-same (length members))

  pub order-low : (y : ℕ) → has (least_order q (below (length members))) y ≡ true
      → y < length members
  unfolding least_order
  order-low = times-low (length (below (length members)))

-- what a search among rising members finds
pub place-is : (members : List ℕ) (item : ℕ) (found : Result ℕ ℕ) → Rises members
    → IsBinarySearchResult (λ y. nat_cmp y item) members found
    → IsPlaceIn members item (result_ok found)
place-is members item found up h = go found (searched members item found h rise)
  where
    rise : (i j : ℕ) → i ≤ j → j < length members → get_or members i 0 ≤ get_or members j 0
    rise i j l k = split (grind (arith, nat_tests)) l k
      where
        split : (i ≡ j) ⊎ (i < j) → i ≤ j → j < length members
            → get_or members i 0 ≤ get_or members j 0
        split (inl e) l k = let s = ap (λ m. get_or members m 0) e in omega (arith, s)
        split (inr m) l k = let w = rises-at members up i j m k in omega (arith, w)

    nowhere : (place : ℕ) → ((k : ℕ) → k < place → get_or members k 0 < item)
        → ((k : ℕ) → place ≤ k → k < length members → item < get_or members k 0)
        → has members item ≡ false
    nowhere place low high
        = false_from_ne_true _
        (λ m. let w
        = first-place members item m in let l
        = w.1 in let e
        = w.2 in clash w.0 l e (cases_lt w.0 place))
      where
        clash : (i : ℕ) → i < length members → get_or members i 0 ≡ item → (i < place) ⊎ (place ≤ i)
            → ⊥
        clash i l e (inl m) = let k = low i m in omega (arith, k, e)
        clash i l e (inr m) = let k = high i m l in omega (arith, k, e)

    go : (found : Result ℕ ℕ)
        → MatchResult found (λ i. (i < length members) × (get_or members i 0 ≡ item))
        (λ i. (i ≤ length members) × ((k : ℕ) → k < i → get_or members k 0 < item)
        × ((k : ℕ) → i ≤ k → k < length members → item < get_or members k 0))
        → IsPlaceIn members item (result_ok found)
    go (Ok i) w = w
    go (Err i) w = nowhere i w.1 w.2

-- ---- places of some items among members

-- The places of the first items that are members.
abbrev pub PlacesOf : List ℕ → List ℕ → List ℕ → Type 0
PlacesOf members items places =
    (i : ℕ) → i < length members → has places i ≡ has items (get_or members i 0)

pub places-more : (members items places : List ℕ) (n place : ℕ) → Rises members → n < length items
    → place < length members → get_or members place 0 ≡ get_or items n 0
    → PlacesOf members (take n items) places
    → PlacesOf members (take (n + 1) items) (places ++ place ∷ [])
places-more members items places n place up l low is same i k =
    push-has places place i
    ∙ ap (λ b. b || eqb i place) (same i k)
    ∙ ap (λ b. has (take n items) (get_or members i 0) || b)
    (same-tests _ _ (λ s. eq-eqb _ _ (ap (λ m. get_or members m 0) (eqb-true i place s) ∙ is))
    (λ s. eq-eqb _ _ (rises-once members up i place k low (eqb-true _ _ s ∙ sym is))))
    ∙ sym (list_any_more (eqb (get_or members i 0)) items n 0 l)

pub places-past : (members items places : List ℕ) (n item : ℕ) → n < length items
    → item ≡ get_or items n item → has members item ≡ false → PlacesOf members (take n items) places
    → PlacesOf members (take (n + 1) items) places
places-past members items places n item l is none same i k =
    same i k
    ∙ sym (or-false (has (take n items) (get_or members i 0)))
    ∙ ap (λ b. has (take n items) (get_or members i 0) || b)
    (sym (false_from_ne_true _
    (λ s. true≢false
    (sym (ap (has members) (is ∙ sym (eqb-true _ _ s))
    ∙ has-at members i (get_or members i 0) k
    (get_or_default members i 0 (get_or members i 0) k))
    ∙ none))))
    ∙ sym (list_any_more (eqb (get_or members i 0)) items n item l)
  where
    or-false : (a : Bool) → (a || false) ≡ a
    or-false true = refl
    or-false false = refl

-- ---- rising keys

pub rises-insert : (ks : List ℕ) (k : ℕ) → Rises ks → Rises (insert_key nat_cmp ks k)
rises-insert [] k up = ((λ y h. absurd (true≢false (sym h))), tt)
rises-insert (x ∷ xs) k up =
    elim (cases_order k x) [
      | inl e ↦
          let c : nat_cmp k x ≡ Equal = grind (arith, nat_tests) in
          subst (λ o. Rises (match_ordering o (k ∷ x ∷ xs) (x ∷ xs) (x ∷ insert_key nat_cmp xs k)))
          (sym c) up
      | inr (inl l) ↦
          let c : nat_cmp k x ≡ Less = grind (arith, nat_tests) in
          subst (λ o. Rises (match_ordering o (k ∷ x ∷ xs) (x ∷ xs) (x ∷ insert_key nat_cmp xs k)))
          (sym c) (
            (λ y h. elim (or_cases _ _ h) [
              | inl s ↦ (let e = eqb-true y x s in omega arith)
              | inr m ↦
                  (let w = up.0 y m in omega arith)
            ]),
            up,
          )
      | inr (inr g) ↦
          let c : nat_cmp k x ≡ Greater = grind (arith, nat_tests) in
          subst (λ o. Rises (match_ordering o (k ∷ x ∷ xs) (x ∷ xs) (x ∷ insert_key nat_cmp xs k)))
          (sym c) (
            (λ y h. elim (or_cases _ _ (sym (has-insert_key xs k y) ∙ h))
                [ inl m ↦ up.0 y m | inr s ↦ (let e = eqb-true y k s in omega arith) ]),
            rises-insert xs k up.1,
          )
    ]

pub has-more : (xs : List ℕ) (n x y : ℕ) → n < length xs → x ≡ get_or xs n x
    → has (take (n + 1) xs) y ≡ (has (take n xs) y || eqb y x)
has-more xs n x y l is =
    list_any_more (eqb y) xs n x l ∙ ap (λ z. has (take n xs) y || eqb y z) (sym is)

pub all-more : (n : ℕ) (xs : List ℕ) (x : ℕ) → All (λ y. y < n) xs → x < n
    → All (λ y. y < n) (xs ++ x ∷ [])
all-more n xs x all low =
    all-within n (xs ++ x ∷ []) (λ y h. split y (or_cases _ _ (sym (push-has xs x y) ∙ h)))
  where
    split : (y : ℕ) → (has xs y ≡ true) ⊎ (eqb y x ≡ true) → y < n
    split y (inl m) = all-has (λ y. y < n) xs y all m
    split y (inr s) = subst (λ z. z < n) (sym (eqb-true y x s)) low

-- ---- lists of places

-- The first members' places go to each other as the members do.
abbrev pub GoFirst : Relation → List ℕ → ℕ → List (Vec ℕ) → Type 0
GoFirst r members n lists =
    (i j : ℕ) → i < n → j < length members
    → goes lists i j ≡ r (get_or members i 0) (get_or members j 0)
