-- One item placed, in the code's terms.
use Rattle.std.proofs.Common.{◌≡◌, ℕ, zero, suc, ◌+◌, ◌<◌, ◌≤◌, Bool, true, false, eqb, List, []}
use Rattle.std.proofs.Common.{◌∷◌, ◌++◌, length, get_or, take, drop, set, sym, refl, ap, ◌∙◌, subst}
use Rattle.std.proofs.Common.{inl, inr, arith}
use Rattle.std.specs.Prelude.{◌&&◌, ◌||◌, not, slice_index, slice_index_or, All}
use Rattle.std.specs.Global.{Vec}
use Rattle.std.specs.Ordering.{nat_cmp, match_ordering}
use Rattle.std.specs.declared.cmp.Ordering.TheVariants.{Less, Equal, Greater}
use Rattle.std.specs.BTreeSet.{insert_key}
use Rattle.std.specs.BTreeMap.Range.{IsLtBy}
use Rattle.std.proofs.Common.{get_or-set_same, get_or-set_other, drop-cons}
use Rattle.std.proofs.lemmas.List.{get_or_default, take_all}
use Rattle.std.proofs.lemmas.List.Sums.{length-filter, count_by-le-length}
use Rattle.std.proofs.lemmas.List.FromFn.{length-range_with_len}
use Rattle.std.proofs.lemmas.List.Elements.{All-head, All-tail}
use Rattle.relation_order.specs.Least.{with_next}
use Rattle.std.proofs.lemmas.Bool.{true≢false, or_cases, or_left, or_right, eqb-true, eq-eqb}
use Rattle.std.proofs.lemmas.Bool.{ne_eqb, false_from_ne_true, cases_eq, cases_order}
use Rattle.std.proofs.lemmas.Bool.Decides.{nat_tests}
use Rattle.relation_order.specs.Sets.{has, below, successors, goes, marked}
use Rattle.relation_order.specs.Builder.{AllListed}
use Rattle.relation_order.specs.Placing.{Placing}
use Rattle.relation_order.proofs.Lists.{has-at, has-marked, seen-inside, goes-at, all-has}
use Rattle.relation_order.proofs.LeastLaws.{push-has}
use Rattle.relation_order.proofs.Placing.{made-listed, first-next, rising-filter, rising-range}

pub has-insert_key : (ks : List ℕ) (k y : ℕ)
    → has (insert_key nat_cmp ks k) y ≡ (has ks y || eqb y k)
has-insert_key [] k y = or-false (eqb y k)
  where
    or-false : (a : Bool) → (a || false) ≡ a
    or-false true = refl
    or-false false = refl
has-insert_key (x ∷ xs) k y =
    elim (cases_order k x) [
      | inl e ↦
          let c : nat_cmp k x ≡ Equal = grind (arith, nat_tests) in
          ap (λ o. has (match_ordering o (k ∷ x ∷ xs) (x ∷ xs) (x ∷ insert_key nat_cmp xs k)) y) c
          ∙ taken (eqb y x) (has xs y) (eqb y k)
          (λ s. or_left _ _ (eq-eqb y x (eqb-true y k s ∙ e)))
      | inr (inl l) ↦
          let c : nat_cmp k x ≡ Less = grind (arith, nat_tests) in
          ap (λ o. has (match_ordering o (k ∷ x ∷ xs) (x ∷ xs) (x ∷ insert_key nat_cmp xs k)) y) c
          ∙ front (eqb y k) (eqb y x || has xs y)
      | inr (inr g) ↦
          let c : nat_cmp k x ≡ Greater = grind (arith, nat_tests) in
          ap (λ o. has (match_ordering o (k ∷ x ∷ xs) (x ∷ xs) (x ∷ insert_key nat_cmp xs k)) y) c
          ∙ ap (λ b. eqb y x || b) (has-insert_key xs k y) ∙ later (eqb y x) (has xs y) (eqb y k)
    ]
  where
    taken : (a b c : Bool) → (c ≡ true → (a || b) ≡ true) → (a || b) ≡ ((a || b) || c)
    taken true b c f = refl
    taken false true c f = refl
    taken false false true f = f refl
    taken false false false f = refl

    front : (a b : Bool) → (a || b) ≡ (b || a)
    front true true = refl
    front true false = refl
    front false true = refl
    front false false = refl

    later : (a b c : Bool) → (a || (b || c)) ≡ ((a || b) || c)
    later true b c = refl
    later false b c = refl

-- what isn't open is listed if it is a member
pub closed-listed : (member listed : Bool) → (member && not listed) ≡ false → member ≡ true
    → listed ≡ true
closed-listed member true closed m = refl
closed-listed true false closed m = sym closed
closed-listed false false closed m = m

pub open-parts : (member listed : Bool) → (member && not listed) ≡ true
    → (member ≡ true) × (listed ≡ false)
open-parts true false o = (refl, refl)
open-parts true true o = absurd (true≢false (sym o))
open-parts false listed o = absurd (true≢false (sym o))

pub successors-at : (lists : List (Vec ℕ)) (x : ℕ) (v : Vec ℕ) → x < length lists
    → v ≡ get_or lists x v → successors lists x ≡ v.items
successors-at [] x v l is = absurd (omega arith)
successors-at (w ∷ ws) zero v l is = ap (λ (u : Vec ℕ). u.items) (sym is)
successors-at (w ∷ ws) (suc x) v l is = successors-at ws x v (omega arith) is

-- more that is listed
pub listed-more : (members listed : List Bool) (items : List ℕ) (x : ℕ)
    → AllListed members listed items → AllListed members (set listed x true) items
listed-more members listed items x all k d l m = set-true listed x (get_or items k d) (all k d l m)
  where
    set-true : (listed : List Bool) (x y : ℕ) → slice_index_or listed y false ≡ true
        → slice_index_or (set listed x true) y false ≡ true
    set-true listed x y t =
        elim (cases_eq y x) [
          | inl same ↦ ap (λ z. slice_index_or (set listed x true) z false) same
              ∙ get_or-set_same listed x true false
              (seen-inside listed x (ap (λ z. slice_index_or listed z false) (sym same) ∙ t))
          | inr other ↦ get_or-set_other listed x y true false other ∙ t
        ]

-- one item looked at up to a place
pub looked-set : (lists : List (Vec ℕ)) (members listed : List Bool) (looked : List ℕ) (item at : ℕ)
    → item < length looked → at ≤ length (successors lists item)
    → AllListed members listed (take at (successors lists item))
    → ((x : ℕ)
    → (slice_index looked x ≤ length (successors lists x))
    × AllListed members listed (take (slice_index looked x) (successors lists x)))
    → (x : ℕ)
    → (slice_index (set looked item at) x ≤ length (successors lists x))
    × AllListed members listed (take (slice_index (set looked item at) x) (successors lists x))
looked-set lists members listed looked item at l within front before x =
    elim (cases_eq x item) [
      | inl same ↦
          let new : slice_index (set looked item at) x ≡ at
          = ap (slice_index (set looked item at)) same ∙ get_or-set_same looked item at 0 l in
          rw (new, same) (within, front)
      | inr other ↦ rw (get_or-set_other looked item x at 0 other) (before x)
    ]

-- an open place that an item goes to
pub open-member : (lists : List (Vec ℕ)) (members listed : List Bool) (order : List ℕ) (item at : ℕ)
    (v : Vec ℕ) (targets : List ℕ)
    → item < length lists → v ≡ get_or lists item v
    → ((y : ℕ) → slice_index_or listed y false ≡ has order y) → targets ≡ v.items
    → at < length targets → slice_index_or members (slice_index targets at) false ≡ true
    → slice_index_or listed (slice_index targets at) false ≡ false
    → (has (marked members) (slice_index targets at) ≡ true)
    × (has order (slice_index targets at) ≡ false)
    × (goes lists item (slice_index targets at) ≡ true)
open-member lists members listed order item at v targets l is marks same within m n =
    let z = slice_index targets at in (
      has-marked members z ∙ m,
      sym (marks z) ∙ n,
      goes-at lists item z v l is ∙ ap (λ ys. has ys z) (sym same)
          ∙ has-at targets at z within (get_or_default targets at 0 z within),
    )

-- where none is open, all members that an item goes to are listed
pub none-open : (lists : List (Vec ℕ)) (members listed : List Bool) (order : List ℕ) (item at : ℕ)
    (v : Vec ℕ) (targets : List ℕ)
    → item < length lists → v ≡ get_or lists item v
    → ((y : ℕ) → slice_index_or listed y false ≡ has order y) → targets ≡ v.items
    → length targets ≤ at → AllListed members listed (take at targets) → (y : ℕ)
    → has (marked members) y ≡ true → goes lists item y ≡ true → has order y ≡ true
none-open lists members listed order item at v targets l is marks same past all y m t =
    let has-y = ap (λ ys. has ys y) same ∙ sym (goes-at lists item y v l is) ∙ t in
    let all' : AllListed members listed targets
    = subst (AllListed members listed) (take_all at targets past) all in
    sym (marks y)
    ∙ all-has
    (λ y. slice_index_or members y false ≡ true → slice_index_or listed y false ≡ true)
    targets y all' has-y (sym (has-marked members y) ∙ m)

-- what is marked is a place
pub member-inside : (marks : List Bool) (y : ℕ) → has (marked marks) y ≡ true → y < length marks
member-inside marks y h = seen-inside marks y (sym (has-marked marks y) ∙ h)

pub all-within : (n : ℕ) (xs : List ℕ) → ((y : ℕ) → has xs y ≡ true → y < n) → All (λ y. y < n) xs
all-within n xs all k d l =
    all (get_or xs k d) (has-at xs k (get_or xs k d) l (get_or_default xs k d (get_or xs k d) l))

-- one item less is left
pub left-less : (xs : List ℕ) (i x d : ℕ) → i < length xs → x ≡ get_or xs i d
    → drop i xs ≡ x ∷ drop (i + 1) xs
left-less xs i x d l e =
    drop-cons xs i d l ∙ ap (λ y. y ∷ drop (suc i) xs) (sym e) ∙ ap (λ n. x ∷ drop n xs) (suc-is i)
  where
    suc-is : (i : ℕ) → suc i ≡ i + 1
    suc-is i = omega arith

-- one more is marked
pub marks-more : (listed : List Bool) (order : List ℕ) (x : ℕ) → x < length listed
    → ((y : ℕ) → slice_index_or listed y false ≡ has order y) → (y : ℕ)
    → slice_index_or (set listed x true) y false ≡ has (order ++ x ∷ []) y
marks-more listed order x l marks y =
    elim (cases_eq y x) [
      | inl s ↦ ap (λ v. slice_index_or (set listed x true) v false) s
          ∙ get_or-set_same listed x true false l
          ∙ sym (push-has order x y ∙ or-right (has order y) (eqb y x) (eq-eqb y x s))
      | inr ne ↦ get_or-set_other listed x y true false ne ∙ marks y
          ∙ sym (push-has order x y ∙ ap (λ b. has order y || b) (ne_eqb y x ne)
          ∙ or-none (has order y))
    ]
  where
    or-right : (a b : Bool) → b ≡ true → (a || b) ≡ true
    or-right a b e = or_right a b e

    or-none : (a : Bool) → (a || false) ≡ a
    or-none true = refl
    or-none false = refl

-- all keys after the first are above it
pub keys-above : (k : ℕ) (ks : List ℕ) → All (IsLtBy nat_cmp k) ks → (y : ℕ) → has ks y ≡ true
    → k < y
keys-above k [] all y h = absurd (true≢false (sym h))
keys-above k (x ∷ xs) all y h =
    elim (or_cases (eqb y x) (has xs y) h) [
      | inl s ↦ let e
          = eqb-true y x s in let a
          = All-head (IsLtBy nat_cmp k) x xs all in above k x y a e
      | inr m ↦ keys-above k xs (All-tail (IsLtBy nat_cmp k) x xs all) y m
    ]
  where
    above : (k x y : ℕ) → IsLtBy nat_cmp k x → y ≡ x → k < y
    above k x y a e = grind (arith, nat_tests)

-- the least ready item is listed
pub first-listed : (lists : List (Vec ℕ)) (members : List Bool) (order ready ready' : List ℕ)
    (waits waits' : List (Vec ℕ)) (x : ℕ) (freed : List ℕ)
    → Placing (goes lists) (marked members) order ready (goes waits) [] → ready ≡ x ∷ ready'
    → All (IsLtBy nat_cmp x) ready' → ((y : ℕ) → has freed y ≡ goes waits x y)
    → ((z y : ℕ) → goes waits' z y ≡ (not (eqb z x) && goes waits z y))
    → Placing (goes lists) (marked members) (order ++ x ∷ []) ready' (goes waits') freed
first-listed lists members order ready ready' waits waits' x freed p keys above row rest =
    made-listed (goes lists) (marked members) order ready ready' (goes waits) (goes waits') x freed
    p (λ y. ap (λ ks. has ks y) keys)
    (false_from_ne_true _ (λ h. let l = keys-above x ready' above x h in absurd (omega arith)))
    row rest

pub first-is-next : (lists : List (Vec ℕ)) (members : List Bool) (order ready ready' : List ℕ)
    (waits : List (Vec ℕ)) (x : ℕ)
    → Placing (goes lists) (marked members) order ready (goes waits) [] → ready ≡ x ∷ ready'
    → All (IsLtBy nat_cmp x) ready'
    → with_next (goes lists) (marked members) order ≡ order ++ x ∷ []
first-is-next lists members order ready ready' waits x p keys above =
    first-next (goes lists) (marked members) order ready (goes waits) x ready'
    (rising-filter (λ y. slice_index_or members y false) (below (length members))
    (rising-range 0 (length members))) p keys (keys-above x ready' above)

-- a ready item is a place
pub first-inside : (lists : List (Vec ℕ)) (members : List Bool) (order ready ready' : List ℕ)
    (waits : List (Vec ℕ)) (x : ℕ)
    → Placing (goes lists) (marked members) order ready (goes waits) [] → ready ≡ x ∷ ready'
    → x < length members
first-inside lists members order ready ready' waits x p keys =
    member-inside members x
    (p.are_ready x (ap (λ ks. has ks x) keys ∙ or_left _ _ (eq-eqb x x refl))).member

-- and so is what waits for it
pub freed-inside : (lists : List (Vec ℕ)) (members : List Bool) (order ready : List ℕ)
    (waits : List (Vec ℕ)) (x : ℕ) (freed freed' : List ℕ)
    → Placing (goes lists) (marked members) order ready (goes waits) []
    → ((y : ℕ) → has freed y ≡ goes waits x y) → freed' ≡ freed
    → All (λ y. y < length members) freed'
freed-inside lists members order ready waits x freed freed' p row same =
    all-within (length members) freed'
    (λ y h. member-inside members y
    (p.waiting x y (sym (row y) ∙ ap (λ ys. has ys y) (sym same) ∙ h)).0)

pub none-there : (ks : List ℕ) → (0 < length ks → ⊥) → ks ≡ []
none-there [] f = refl
none-there (k ∷ ks) f = absurd (f (omega arith))

pub length-marked : (marks : List Bool) → length (marked marks) ≤ length marks
length-marked marks =
    let p : ℕ → Bool = λ y. slice_index_or marks y false in
    omega (
      arith,
      length-filter p (below (length marks)),
      count_by-le-length p (below (length marks)),
      length-range_with_len 0 (length marks),
    )
