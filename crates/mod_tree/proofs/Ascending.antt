-- Lists in order: from a sort, through a key, and as the items of a set.
use Rattle.std.proofs.Common.{◌≡◌, ℕ, suc, ◌+◌, ◌≤◌, Bool, true, false, cond, List, [], ◌∷◌, sym}
use Rattle.std.proofs.Common.{refl, ap, subst, ◌∙◌, inl, inr, arith, Ordering, Some, None}
use Rattle.std.specs.Prelude.{◌&&◌, ◌||◌, map, filter}
use Rattle.std.specs.List.{AllByRecursion, list_any, list_all, count_by}
use Rattle.std.specs.List.Sorted.{IsSortedBy}
use Rattle.std.specs.Str.{bytes_eq}
use Rattle.std.specs.Cmp.{IsTotalOrder, IsStrictWeakOrder}
use Rattle.std.specs.Ordering.{ordering_reverse, is_lt, is_eq, eq_by_cmp}
use Rattle.std.specs.declared.cmp.Ordering.TheVariants.{Less, Equal, Greater}
use lib.Dec.{T}
use Rattle.mod_tree.specs.Order.{in_order}
use Rattle.std.specs.FinMap as finmap
use Rattle.std.proofs.lemmas.Bool.{cases_Bool, true≢false, false_from_ne_true, true_from_ne_false}
use Rattle.std.proofs.lemmas.Bool.{and_parts, and_from}
use Rattle.std.proofs.lemmas.List.Sums.{sum_by-cons}
use Rattle.std.proofs.lemmas.List.Sorted.{sorted_far}
use Rattle.std.proofs.lemmas.List.Elements.{recursion_from_All}
use Rattle.std.proofs.lemmas.Slice.Eq.{bytes_eq-Decides}
use Rattle.std.proofs.lemmas.Cmp.{tied_itself}

-- no element is below one before it
abbrev pub Ascends : {X : Type 0} → (X → X → Bool) → List X → Type 0
Ascends lt [] = Unit {0}
Ascends lt (x ∷ xs) = AllByRecursion (λ y. lt y x ≡ false) xs × Ascends lt xs

pub ascends-sorted : {X : Type 0} (lt : X → X → Bool) (o : IsStrictWeakOrder lt) (xs : List X)
    → IsSortedBy lt xs → Ascends lt xs
ascends-sorted lt o [] up = tt
ascends-sorted {X} lt o (x ∷ xs) up = (
  recursion_from_All (λ y. lt y x ≡ false) xs
      (λ k d l. sorted_far lt o (x ∷ xs) up 0 (suc k) d (omega arith) (omega arith)),
  ascends-sorted lt o xs tail,
)
  where
    tail : IsSortedBy lt xs
    tail k d z l =
        let e : suc k + 1 ≡ suc (k + 1) = omega arith in
        rw e at (up (suc k) d (omega arith) (omega arith))

pub all-map : {X Y : Type 0} (key : X → Y) (lt : X → X → Bool) (lt' : Y → Y → Bool) (P : X → Type 0)
    → ((x y : X) → P x → P y → lt' (key y) (key x) ≡ lt y x) → (x : X) → P x → (ys : List X)
    → AllByRecursion P ys → AllByRecursion (λ y. lt y x ≡ false) ys
    → AllByRecursion (λ z. lt' z (key x) ≡ false) (map key ys)
all-map key lt lt' P same x px [] all low = tt
all-map key lt lt' P same x px (y ∷ ys) all low =
    (same x y px all.0 ∙ low.0, all-map key lt lt' P same x px ys all.1 low.1)

pub ascends-map : {X Y : Type 0} (key : X → Y) (lt : X → X → Bool) (lt' : Y → Y → Bool)
    (P : X → Type 0)
    → ((x y : X) → P x → P y → lt' (key y) (key x) ≡ lt y x) → (xs : List X) → AllByRecursion P xs
    → Ascends lt xs → Ascends lt' (map key xs)
ascends-map key lt lt' P same [] all up = tt
ascends-map key lt lt' P same (x ∷ xs) all up =
    (all-map key lt lt' P same x all.0 xs all.1 up.0, ascends-map key lt lt' P same xs all.1 up.1)

-- a fact of each element holds of one that is there
pub all-has : (P : List ℕ → Type 0) (q : List ℕ) (ys : List (List ℕ)) → AllByRecursion P ys
    → list_any (bytes_eq q) ys ≡ true → P q
all-has P q [] all has = absurd (true≢false (sym has))
all-has P q (y ∷ ys) all has =
    elim (cases_Bool (bytes_eq q y)) [
      | inl is ↦ subst P (sym ((bytes_eq-Decides q y).0 is)) all.0
      | inr other ↦ all-has P q ys all.1 (sym (ap (λ b. b || list_any (bytes_eq q) ys) other) ∙ has)
    ]

pub pair : {K : Type 0} → K → K × Unit {0}
pair k = (k, tt)

abbrev pub IsStrict : {K : Type 0} → (K → K → Ordering) → List K → Type 0
IsStrict {K} R ks = finmap.is_sorted R (map (λ (k : K). (k, tt {0})) ks) ≡ true

any-same : {X : Type 0} (p q : X → Bool) → ((x : X) → p x ≡ q x) → (xs : List X)
    → list_any p xs ≡ list_any q xs
any-same p q same [] = refl
any-same p q same (x ∷ xs) =
    ap (λ b. b || list_any p xs) (same x) ∙ ap (λ b. q x || b) (any-same p q same xs)

map-pair : {K : Type 0} (ks : List K)
    → map (λ (e : K × Unit {0}). e.0) (map (λ (k : K). (k, tt {0})) ks) ≡ ks
map-pair [] = refl
map-pair (k ∷ ks) = ap (λ r. k ∷ r) (map-pair ks)

find-pairs : {K : Type 0} (R : K → K → Ordering) (q : K) (xs : List K)
    → finmap.find R q (map (λ (k : K). (k, tt {0})) xs)
    ≡ cond (list_any (eq_by_cmp R q) xs) (Some tt) None
find-pairs R q [] = refl
find-pairs {K} R q (x ∷ xs) =
    elim (eq_by_cmp R q x) as
    (λ b. cond b (Some tt) (finmap.find R q (map (λ (k : K). (k, tt {0})) xs))
    ≡ cond (b || list_any (eq_by_cmp R q) xs) (Some tt) None) [
      | true ↦ refl
      | false ↦ find-pairs R q xs
    ]

-- a list in strict order is, in that order, each list with its members
pub in_order-is : {K : Type 0} {R : K → K → Ordering} (o : IsTotalOrder R)
    (same : finmap.IsAntisymmetric R) (ks xs : List K)
    → IsStrict R ks → ((q : K) → list_any (eq_by_cmp R q) ks ≡ list_any (eq_by_cmp R q) xs)
    → in_order R xs ≡ ks
unfolding in_order
in_order-is {K} {R} o same ks xs strict has =
    let pairs : List (K × Unit {0}) = map (λ (k : K). (k, tt {0})) ks in
    let m : finmap.FinMap R (Unit {0}) = finmap.from_sorted {R = R} pairs in
    let sorted : T (finmap.is_sorted R pairs) = subst (λ b. T b) (sym strict) tt in
    let gets : (q : K)
    → finmap.get (finmap.from_entries {R = R} (map (λ (k : K). (k, tt {0})) xs)) q
    ≡ finmap.get m q
    = λ q.
    finmap.get-from_entries o (map (λ (k : K). (k, tt {0})) xs) q ∙ find-pairs R q xs
    ∙ ap (λ b. cond b (Some tt) None) (sym (has q)) ∙ sym (find-pairs R q ks)
    ∙ sym (finmap.get-from_sorted R pairs q sorted) in
    ap finmap.keys (finmap.same_map o same _ m gets)
    ∙ ap (λ (l : List (K × Unit {0})). map (λ e. e.0) l)
    (finmap.entries-from_sorted R pairs sorted)
    ∙ map-pair ks

-- neither of two is below the other only where they are equal
pub equal-from_both : {K : Type 0} {R : K → K → Ordering} (o : IsTotalOrder R)
    (same : finmap.IsAntisymmetric R) (x y : K)
    → is_lt (R x y) ≡ false → is_lt (R y x) ≡ false → x ≡ y
equal-from_both {R = R} o same x y low high = go (R x y) refl
  where
    go : (r : Ordering) → R x y ≡ r → x ≡ y
    go Less e = absurd (true≢false (sym (ap is_lt e) ∙ low))
    go Equal e = same x y e
    go Greater e
        = absurd (true≢false (sym (ap is_lt (o.antisymm y x ∙ ap ordering_reverse e)) ∙ high))

-- of two different ones that are in order, the first is below
pub below-from_other : {K : Type 0} {R : K → K → Ordering} (o : IsTotalOrder R)
    (same : finmap.IsAntisymmetric R) (x y : K)
    → is_lt (R y x) ≡ false → (x ≡ y → ⊥) → is_lt (R x y) ≡ true
below-from_other o same x y high other =
    true_from_ne_false _ (λ low. other (equal-from_both o same x y low high))

pub not_below_itself : {K : Type 0} {R : K → K → Ordering} (o : IsTotalOrder R) (x : K)
    → is_lt (R x x) ≡ false
not_below_itself o x = ap is_lt (tied_itself o x)

pub bytes_eq-itself : (x : List ℕ) → bytes_eq x x ≡ true
bytes_eq-itself x = (bytes_eq-Decides x x).1 refl

pub bytes_eq-other : (x y : List ℕ) → bytes_eq x y ≡ false → x ≡ y → ⊥
bytes_eq-other x y e same = true≢false (sym ((bytes_eq-Decides x y).1 same) ∙ e)

pub sorted-cons : {K : Type 0} (R : K → K → Ordering) (x : K) (ys : List K) → IsStrict R ys
    → list_all (λ y. is_lt (R x y)) ys ≡ true → IsStrict R (x ∷ ys)
sorted-cons R x [] strict low = refl
sorted-cons R x (y ∷ ys) strict low =
    let p = and_parts _ _ low in
    let ih = sorted-cons R x ys (and_parts _ _ strict).1 p.1 in
    and_from _ _ (and_from _ _ p.0 (and_parts _ _ ih).0) strict

-- a list in order in which nothing stands twice is in strict order
module _ {R : List ℕ → List ℕ → Ordering} (o : IsTotalOrder R) (same : finmap.IsAntisymmetric R)
  where
    below-rest : (x : List ℕ) (ys : List (List ℕ)) → AllByRecursion (λ y. is_lt (R y x) ≡ false) ys
        → count_by (bytes_eq x) ys ≡ 0 → list_all (λ y. is_lt (R x y)) ys ≡ true
    below-rest x [] all none = refl
    below-rest x (y ∷ ys) all none =
        let e = sum_by-cons (λ z. cond (bytes_eq x z) 1 0) y ys in
        let other : bytes_eq x y ≡ false
        = false_from_ne_true (bytes_eq x y)
        (λ is. absurd (omega (arith, none, e, ap {B = ℕ} (λ b. cond b 1 0) is))) in
        and_from _ _ (below-from_other o same x y all.0 (bytes_eq-other x y other))
        (below-rest x ys all.1 (omega (arith, none, e)))

    pub strict-once : (xs : List (List ℕ)) → Ascends (λ x y. is_lt (R x y)) xs
        → ((q : List ℕ) → count_by (bytes_eq q) xs ≤ 1) → IsStrict R xs
    strict-once [] up once = refl
    strict-once (x ∷ xs) up once =
        let here : count_by (bytes_eq x) xs ≡ 0
        = omega (
          arith,
          once x,
          sum_by-cons (λ y. cond (bytes_eq x y) 1 0) x xs,
          ap {B = ℕ} (λ b. cond b 1 0) (bytes_eq-itself x),
        ) in
        sorted-cons R x xs
        (strict-once xs up.1
        (λ q. omega (arith, once q, sum_by-cons (λ y. cond (bytes_eq q y) 1 0) x xs)))
        (below-rest x xs up.0 here)

pub strict-low : {K : Type 0} (R : K → K → Ordering) (x : K) (ys : List K) → IsStrict R (x ∷ ys)
    → list_all (λ y. is_lt (R x y)) ys ≡ true
strict-low R x [] strict = refl
strict-low R x (y ∷ ys) strict =
    let p = and_parts _ _ strict in
    let low = and_parts _ _ p.0 in
    and_from _ _ low.0 (strict-low R x ys (and_from _ _ low.1 (and_parts _ _ p.1).1))

pub strict-rest : {K : Type 0} (R : K → K → Ordering) (x : K) (ys : List K) → IsStrict R (x ∷ ys)
    → IsStrict R ys
strict-rest R x ys strict = (and_parts _ _ strict).1

-- where only equal ones tie, a tie is equality
pub eq-is : {R : List ℕ → List ℕ → Ordering} (o : IsTotalOrder R) (same : finmap.IsAntisymmetric R)
    (x y : List ℕ)
    → eq_by_cmp R x y ≡ bytes_eq x y
eq-is {R} o same x y =
    elim (cases_Bool (bytes_eq x y)) [
      | inl is ↦ ap (λ z. is_eq (R x z)) (sym ((bytes_eq-Decides x y).0 is))
          ∙ ap is_eq (tied_itself o x) ∙ sym is
      | inr other ↦ go (R x y) refl other ∙ sym other
    ]
  where
    go : (r : Ordering) → R x y ≡ r → bytes_eq x y ≡ false → is_eq (R x y) ≡ false
    go Less e other = ap is_eq e
    go Equal e other = absurd (bytes_eq-other x y other (same x y e))
    go Greater e other = ap is_eq e

pub any-eq : {R : List ℕ → List ℕ → Ordering} (o : IsTotalOrder R) (same : finmap.IsAntisymmetric R)
    (q : List ℕ) (xs : List (List ℕ))
    → list_any (eq_by_cmp R q) xs ≡ list_any (bytes_eq q) xs
any-eq {R} o same q xs = any-same (eq_by_cmp R q) (bytes_eq q) (eq-is o same q) xs

-- what a filter keeps
pub any-filter : (f : List ℕ → Bool) (q : List ℕ) (xs : List (List ℕ))
    → list_any (bytes_eq q) (filter f xs) ≡ (list_any (bytes_eq q) xs && f q)
any-filter f q [] = refl
any-filter f q (x ∷ xs) =
    elim (cases_Bool (bytes_eq q x)) [
      | inl is ↦
          let e : q ≡ x = (bytes_eq-Decides q x).0 is in
          elim (cases_Bool (f x)) [
            | inl kept ↦ rw (kept, is, ap f e ∙ kept) refl
            | inr dropped ↦ rw (dropped, is, any-filter f q xs, ap f e ∙ dropped)
                (and-none (list_any (bytes_eq q) xs))
          ]
      | inr other ↦ elim (cases_Bool (f x)) [
        | inl kept ↦ rw (kept, other) (any-filter f q xs)
        | inr dropped ↦ rw (dropped, other) (any-filter f q xs)
      ]
    ]
  where
    and-none : (a : Bool) → (a && false) ≡ false
    and-none true = refl
    and-none false = refl
