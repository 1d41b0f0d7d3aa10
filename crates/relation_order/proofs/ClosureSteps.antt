-- What is reached from an item, by marks for each item.
use Rattle.std.proofs.Common.{◌≡◌, ℕ, zero, suc, ◌+◌, ◌-◌, ◌*◌, ◌^◌, ◌<◌, ◌≤◌, Bool, true, false}
use Rattle.std.proofs.Common.{cond, eqb, List, [], ◌∷◌, ◌++◌, length, get_or, take, set, sym, refl}
use Rattle.std.proofs.Common.{ap, ◌∙◌, subst, inl, inr, arith}
use Rattle.std.specs.Prelude.{◌||◌, ◌⊎◌, ◌≢◌, filter, map, All}
use Rattle.std.specs.Global.{Vec}
use Rattle.std.proofs.lemmas.Bool.{true≢false, or_cases, or_left, or_right, eqb-true, eq-eqb}
use Rattle.std.proofs.lemmas.Bool.{cases_eq, false_from_ne_true}
use Rattle.std.proofs.lemmas.List.{ext_get_or, take_more, take_all, get_or_default}
use Rattle.std.proofs.lemmas.List.{get_or-map as get_or-map_at, length-map, nil_from_length}
use Rattle.std.proofs.Math.ListN.{get_or-map}
use Rattle.std.proofs.lemmas.List.FromFn.{length-range_with_len, get_or-map-range_with_len}
use Rattle.std.proofs.lemmas.List.Sums.{length-filter, count_by-le-length}
use Rattle.std.proofs.lemmas.List.Elements.{All-more}
use Rattle.std.proofs.lemmas.List.Kept.{AllPairs-filter}
use Rattle.std.proofs.lemmas.Nat.{mul-le}
use Rattle.std.proofs.lemmas.Map.Steps.{length-le_from_distinct_below}
use Rattle.relation_order.specs.Sets.{Relation, has, below, goes}
use Rattle.relation_order.specs.Search.{Inside}
use Rattle.relation_order.specs.Reached.{reached}
use Rattle.relation_order.specs.Least.{least_order}
use Rattle.relation_order.specs.Cycle.{cycle}
use Rattle.relation_order.specs.Closures.{closure, closures}
use Rattle.relation_order.specs.Rows.{has_mark, marked_in, row_at, AreReached, Fitting}
use Rattle.relation_order.proofs.Lists.{has-range, range-has, all-has, has-at, goes-at}
use Rattle.relation_order.proofs.MarkSteps.{marks-in_order}
use Rattle.relation_order.proofs.Saturation.{filter-same, keeps}
use Rattle.relation_order.proofs.ReachedLaws.{reached-step, reached-further, reached-only}
use Rattle.relation_order.proofs.ReachedLaws.{reached-members}
use Rattle.relation_order.proofs.LeastLaws.{push-has, least-members, least-distinct, least-after}
use Rattle.relation_order.proofs.Complete.{all-listed_from_empty}
use Rattle.relation_order.proofs.Restricted.{least-part, same-tests}
use Rattle.relation_order.proofs.Ordered.{front-place}

-- what is reached from an item that is reached
pub reached-through : (r : Relation) (set : List ℕ) (x y z : ℕ) → has (reached r set x) y ≡ true
    → has (reached r set y) z ≡ true → has (reached r set x) z ≡ true
reached-through r set x y z there =
    reached-only r set y (λ z. has (reached r set x) z ≡ true)
    (λ z m t. reached-further r set x y z there t m)
    (λ v z h m t. reached-further r set x v z h t m) z

-- a row with an item and all that is reached from it
module _ (r : Relation) (n x y : ℕ) (old other new : List ℕ)
    (marks : (z : ℕ) → has_mark new z ≡ (has_mark old z || (eqb z y || has_mark other z)))
    (known : AreReached r n other y) (goes-y : r x y ≡ true) (inside : has (below n) y ≡ true) where
  pub row-grown : (z : ℕ) → has_mark old z ≡ true → has_mark new z ≡ true
  row-grown z t = marks z ∙ or_left _ _ t

  pub row-item : has_mark new y ≡ true
  row-item = marks y ∙ or_right _ _ (or_left _ _ (eq-eqb y y refl))

  row-cases : (z : ℕ) → has_mark new z ≡ true
      → (has_mark old z ≡ true) ⊎ ((z ≡ y) ⊎ (has (reached r (below n) y) z ≡ true))
  row-cases z t =
      elim (or_cases _ _ (sym (marks z) ∙ t)) [
        | inl before ↦ inl before
        | inr now ↦
            elim (or_cases _ _ now) [
              | inl same ↦ inr (inl (eqb-true z y same))
              | inr there ↦ inr (inr (sym (known z) ∙ there))
            ]
      ]

  pub row-sound : ((z : ℕ) → has_mark old z ≡ true → has (reached r (below n) x) z ≡ true) → (z : ℕ)
      → has_mark new z ≡ true → has (reached r (below n) x) z ≡ true
  row-sound sound z t =
      let direct = reached-step r (below n) x y goes-y inside in
      elim (row-cases z t) [
        | inl before ↦ sound z before
        | inr (inl same) ↦ ap (has (reached r (below n) x)) same ∙ direct
        | inr (inr there) ↦ reached-through r (below n) x y z direct there
      ]

  pub row-closed : ((v w : ℕ) → has_mark old v ≡ true → has (below n) w ≡ true → r v w ≡ true
      → has_mark old w ≡ true)
      → (v w : ℕ) → has_mark new v ≡ true → has (below n) w ≡ true → r v w ≡ true
      → has_mark new w ≡ true
  row-closed closed v w t m g =
      elim (row-cases v t) [
        | inl before ↦ row-grown w (closed v w before m g)
        | inr (inl same) ↦ marks w
            ∙ or_right _ _
            (or_right _ _
            (known w ∙ reached-step r (below n) y w (ap (λ u. r u w) (sym same) ∙ g) m))
        | inr (inr there) ↦ marks w
            ∙ or_right _ _ (or_right _ _ (known w ∙ reached-further r (below n) y v w there g m))
      ]

-- a row that has all that an item goes to, and with an item all that it goes to
pub row-complete : (r : Relation) (n x : ℕ) (before : List ℕ) (row : List ℕ)
    → ((y : ℕ) → has_mark row y ≡ true → has (reached r (below n) x) y ≡ true)
    → ((p : ℕ) → p < length before → r x (get_or before p 0) ≡ true
    → has_mark row (get_or before p 0) ≡ true)
    → ((v w : ℕ) → has_mark row v ≡ true → has (below n) w ≡ true → r v w ≡ true
    → has_mark row w ≡ true)
    → ((y : ℕ) → r x y ≡ true → has before y ≡ true) → AreReached r n row x
row-complete r n x before row sound direct closed all y =
    same-tests _ _ (sound y)
    (reached-only r (below n) x (λ y. has_mark row y ≡ true) first
    (λ v w t m g. closed v w t m g) y)
  where
    first : (y : ℕ) → has (below n) y ≡ true → r x y ≡ true → has_mark row y ≡ true
    first y m g =
        let w
        = front-place before (length before) y
        (ap (λ ys. has ys y) (take-whole before) ∙ all y g) in
        ap (λ z. has_mark row z) (sym w.3) ∙ direct w.0 w.2 (ap (r x) w.3 ∙ g)
      where
        take-whole : (ys : List ℕ) → take (length ys) ys ≡ ys
        take-whole [] = refl
        take-whole (y ∷ ys) = ap (λ zs. y ∷ zs) (take-whole ys)

-- the rows after one was put in
pub row_at-at : (rows : List (Vec ℕ)) (x : ℕ) (row : Vec ℕ) → x < length rows
    → row ≡ get_or rows x row → row_at rows x ≡ row.items
row_at-at [] x row l is = absurd (omega arith)
row_at-at (v ∷ vs) zero row l is = ap (λ (u : Vec ℕ). u.items) (sym is)
row_at-at (v ∷ vs) (suc x) row l is = row_at-at vs x row (omega arith) is

row_at-set_same : (rows : List (Vec ℕ)) (x : ℕ) (row : Vec ℕ) → x < length rows
    → row_at (set rows x row) x ≡ row.items
row_at-set_same [] x row l = absurd (omega arith)
row_at-set_same (v ∷ vs) zero row l = refl
row_at-set_same (v ∷ vs) (suc x) row l = row_at-set_same vs x row (omega arith)

row_at-set_other : (rows : List (Vec ℕ)) (x z : ℕ) (row : Vec ℕ) → (z ≡ x → ⊥)
    → row_at (set rows x row) z ≡ row_at rows z
row_at-set_other [] x z row ne = refl
row_at-set_other (v ∷ vs) zero zero row ne = absurd (ne refl)
row_at-set_other (v ∷ vs) zero (suc z) row ne = refl
row_at-set_other (v ∷ vs) (suc x) zero row ne = refl
row_at-set_other (v ∷ vs) (suc x) (suc z) row ne = row_at-set_other vs x z row (λ e. ne (ap suc e))

pub known-more : (r : Relation) (n : ℕ) (order : List ℕ) (rows : List (Vec ℕ)) (i x : ℕ)
    (row : Vec ℕ)
    → i < length order → x ≡ get_or order i 0 → x < length rows → AreReached r n row.items x
    → ((y : ℕ) → has (take i order) y ≡ true → AreReached r n (row_at rows y) y) → (y : ℕ)
    → has (take (i + 1) order) y ≡ true → AreReached r n (row_at (set rows x row) y) y
known-more r n order rows i x row l is within new known y h =
    elim (cases_eq y x) [
      | inl same ↦ rw (same, row_at-set_same rows x row within) new
      | inr other ↦ rw (row_at-set_other rows x y row other)
          (known y ((earlier other) (sym (ap (λ ys. has ys y) (take_more order i 0 l)) ∙ h)))
    ]
  where
    earlier : (y ≡ x → ⊥) → has (take i order ++ get_or order i 0 ∷ []) y ≡ true
        → has (take i order) y ≡ true
    earlier other h =
        elim (or_cases (has (take i order) y) (eqb y (get_or order i 0))
        (sym (push-has (take i order) (get_or order i 0) y) ∙ h)) [
          | inl m ↦ m
          | inr s ↦ absurd (other (eqb-true y (get_or order i 0) s ∙ sym is))
        ]

-- all that an item of the order goes to stands before it
pub direct-before : (lists : List (Vec ℕ)) (order : List ℕ) (i x : ℕ) → Inside (length lists) lists
    → order ≡ least_order (goes lists) (below (length lists)) → i < length order
    → x ≡ get_or order i 0 → x < length lists → (y : ℕ) → goes lists x y ≡ true
    → has (take i order) y ≡ true
direct-before lists order i x inside is l here within y g =
    let r = goes lists in
    let set = below (length lists) in
    let low = goes-below lists (length lists) x y inside g in
    let first : i < length (least_order r set) = omega (arith, ap length is) in
    ap (λ o. has (take i o) y) is
    ∙ least-after r set i first y (has-range 0 (length lists) y (omega arith) (omega arith))
    (ap (λ o. r (get_or o i 0) y) (sym is) ∙ ap (λ z. r z y) (sym here) ∙ g)
  where
    goes-below : (lists : List (Vec ℕ)) (n x y : ℕ) → Inside n lists → goes lists x y ≡ true → y < n
    goes-below [] n x y inside g = absurd (true≢false (sym g))
    goes-below (v ∷ vs) n zero y inside g
        = all-has (λ y. y < n) v.items y (inside 0 v (omega arith)) g
    goes-below (v ∷ vs) n (suc x) y inside g
        = goes-below vs n x y (λ k d l. inside (suc k) d (omega arith)) g

pub order-inside : (r : Relation) (n : ℕ) (order : List ℕ) → order ≡ least_order r (below n)
    → All (λ y. y < n) order
order-inside r n order is k d l =
    let member
    = has-at order k (get_or order k d) l (get_or_default order k d (get_or order k d) l) in
    let w
    = range-has 0 n (get_or order k d)
    (least-members r (below n) (get_or order k d)
    (ap (λ o. has o (get_or order k d)) (sym is) ∙ member)) in
    omega arith

pub order-short : (r : Relation) (n : ℕ) (order : List ℕ) → order ≡ least_order r (below n)
    → length order ≤ n
order-short r n order is =
    rw is (length-le_from_distinct_below (least_order r (below n)) n (least-distinct r (below n))
    (λ y h. let w = range-has 0 n y (least-members r (below n) y h) in omega arith))

-- the rows of all items, in order, are the closures
pub rows-closures : (r : Relation) (n : ℕ) (order : List ℕ) (rows : List (Vec ℕ))
    → order ≡ least_order r (below n) → length rows ≡ n
    → ((y : ℕ) → y < n → AreReached r n (row_at rows y) y)
    → map (marked_in order) rows ≡ closures r n
rows-closures r n order rows is long known =
    of-items rows
    ∙ ext_get_or (items-marked []) _ _
    (omega (
      arith,
      long,
      length-map (map (λ (row : Vec ℕ). row.items) rows) items-marked,
      length-map rows (λ (row : Vec ℕ). row.items),
      length-map (below n) (closure r (below n)),
      length-range_with_len 0 n,
    ))
    (λ i l.
    let low : i < n
    = omega (
      arith,
      long,
      length-map (map (λ (row : Vec ℕ). row.items) rows) items-marked,
      length-map rows (λ (row : Vec ℕ). row.items),
    ) in
    get_or-map items-marked (map (λ (row : Vec ℕ). row.items) rows) i [] ∙ same i low
    ∙ sym (get_or-map-range_with_len (closure r (below n)) 0 n i i (items-marked []) low
    (omega arith)))
  where
    items-marked : List ℕ → List ℕ
    items-marked marks = filter (λ y. has_mark marks y) order

    of-items : (rows : List (Vec ℕ))
        → map (marked_in order) rows ≡ map items-marked (map (λ (row : Vec ℕ). row.items) rows)
    of-items [] = refl
    of-items (row ∷ rows) = ap (λ l. marked_in order row ∷ l) (of-items rows)

    same : (i : ℕ) → i < n → items-marked (row_at rows i) ≡ closure r (below n) i
    same i l =
        let p = has (reached r (below n) i) in
        filter-same (λ y. has_mark (row_at rows i) y) p order (λ y h. known i l y)
        ∙ ap (filter p) is
        ∙ least-part r (below n) p (λ x y t m g. reached-further r (below n) i x y t g m)
        ∙ ap (least_order r) (sym (reached-members r (below n) i))

-- each item is in the order of a relation without a cycle
pub all-in : (r : Relation) (n : ℕ) (order : List ℕ) → order ≡ least_order r (below n)
    → cycle r (below n) ≡ [] → (y : ℕ) → y < n → has order y ≡ true
all-in r n order is none y l =
    ap (λ ys. has ys y) is
    ∙ all-listed_from_empty r (below n) none y (has-range 0 n y (omega arith) (omega arith))

-- an item that goes to nothing reaches nothing
pub none-reached : (lists : List (Vec ℕ)) (x y : ℕ) (v : Vec ℕ) → x < length lists
    → v ≡ get_or lists x v → length v.items ≡ 0
    → has (reached (goes lists) (below (length lists)) x) y ≡ false
none-reached lists x y v l is none =
    false_from_ne_true _
    (reached-only (goes lists) (below (length lists)) x (λ z. ⊥)
    (λ z m g. true≢false
    (sym g ∙ goes-at lists x z v l is
    ∙ ap (λ zs. has zs z) (nil_from_length v.items none))) (λ z w h m g. h) y)

-- what is marked is in the order, where the marks are what is reached
pub marks-inside : (r : Relation) (n : ℕ) (order : List ℕ) → order ≡ least_order r (below n)
    → cycle r (below n) ≡ [] → (words : List ℕ) (x : ℕ) → AreReached r n words x → (y : ℕ)
    → has_mark words y ≡ true → has order y ≡ true
marks-inside r n order is none words x marks y h =
    let w
    = range-has 0 n y
    (reached-only r (below n) x (λ z. has (below n) z ≡ true) (λ z m g. m) (λ z v u m g. m)
    y (sym (marks y) ∙ h)) in
    all-in r n order is none y (omega arith)

-- what is marked in a row of some is marked in another
abbrev pub AreIn : List ℕ → List (Vec ℕ) → Type 0
AreIn words rows =
    All (λ (row : Vec ℕ). (y : ℕ) → has_mark row.items y ≡ true → has_mark words y ≡ true) rows

pub in-more : (words more : List ℕ) (rows : List (Vec ℕ)) (i : ℕ) (row d : Vec ℕ) → i < length rows
    → row ≡ get_or rows i d
    → ((y : ℕ) → has_mark more y ≡ (has_mark words y || has_mark row.items y))
    → AreIn words (take i rows) → AreIn more (take (i + 1) rows)
in-more words more rows i row d l is marks all =
    All-more (λ (row : Vec ℕ). (y : ℕ) → has_mark row.items y ≡ true → has_mark more y ≡ true) rows
    i d l
    (λ k e m y h. marks y ∙ or_left _ _ (all k e m y h))
    (λ y h. marks y ∙ or_right _ _ (ap (λ (v : Vec ℕ). has_mark v.items y) is ∙ h))

-- an order without the items that no row marks shows the same of the rows
filter-in : (p q : ℕ → Bool) → ((y : ℕ) → p y ≡ true → q y ≡ true) → (xs : List ℕ)
    → filter p (filter q xs) ≡ filter p xs
filter-in p q up [] = refl
filter-in p q up (x ∷ xs) = go (q x) refl (filter-in p q up xs)
  where
    go : (b : Bool) → q x ≡ b → filter p (filter q xs) ≡ filter p xs
        → filter p (cond b (x ∷ filter q xs) (filter q xs))
        ≡ cond (p x) (x ∷ filter p xs) (filter p xs)
    go true e rest = ap (λ ys. cond (p x) (x ∷ ys) ys) rest
    go false e rest
        = rest
        ∙ sym (ap (λ b. cond b (x ∷ filter p xs) (filter p xs))
        (false_from_ne_true (p x) (λ t. true≢false (sym (up x t) ∙ e))))

pub in-part : (words order : List ℕ) (rows : List (Vec ℕ)) → AreIn words rows
    → map (marked_in (filter (has_mark words) order)) rows ≡ map (marked_in order) rows
in-part words order [] all = refl
in-part words order (row ∷ rows) all =
    ap (λ l. l ∷ map (marked_in (filter (has_mark words) order)) rows)
    (filter-in (has_mark row.items) (has_mark words) (all 0 row (omega arith)) order)
    ∙ ap (λ ls. marked_in order row ∷ ls)
    (in-part words order rows (λ k d l. all (suc k) d (omega arith)))

pub in-fitting : (words order : List ℕ) (rows : List (Vec ℕ)) → AreIn words rows
    → Fitting rows order → Fitting rows (filter (has_mark words) order)
in-fitting words order rows all f =
    record {
      order_long
          = omega (
            arith,
            length-filter (has_mark words) order,
            count_by-le-length (has_mark words) order,
            f.order_long,
          );
      order_once = AllPairs-filter (λ x y. x ≢ y) (has_mark words) order f.order_once;
      rows_long = f.rows_long;
      in_order = λ k d l y h. keeps (has_mark words) order y (all k d l y h) (f.in_order k d l y h);
    }

-- as many as are marked in a row are in the closure that it stands for
pub count-row : (rows : List (Vec ℕ)) (order : List ℕ) (view : List (List ℕ)) (i count : ℕ)
    (row : Vec ℕ) (words : List ℕ)
    → Fitting rows order → view ≡ map (marked_in order) rows → i < length rows
    → row ≡ get_or rows i row → words ≡ row.items
    → count ≡ length (filter (has_mark words) (below (64 * length words)))
    → (count ≡ length (get_or view i [])) × (count ≤ length rows)
count-row rows order view i count row words f view-is l is same counted = (
  now
      ∙ ap (λ xs. length xs)
      (sym (ap (λ v. get_or v i []) view-is ∙ get_or-map_at (marked_in order) rows i row [] l
      ∙ ap (marked_in order) (sym is))),
  omega (
    arith,
    now,
    length-filter (has_mark row.items) order,
    count_by-le-length (has_mark row.items) order,
    f.order_long,
  ),
)
  where
    inside : (y : ℕ) → has_mark row.items y ≡ true → has order y ≡ true
    inside
        = subst (λ (v : Vec ℕ). (y : ℕ) → has_mark v.items y ≡ true → has order y ≡ true) (sym is)
        (f.in_order i row l)

    now : count ≡ length (marked_in order row)
    now
        = counted ∙ ap (λ ws. length (filter (has_mark ws) (below (64 * length ws)))) same
        ∙ marks-in_order row.items order f.order_once inside

-- the count after one row more, where each has at most as many as there are rows
pub count-next : (i most count more : ℕ) → count ≤ i * most → more ≤ most
    → count + more ≤ (i + 1) * most
count-next i most count more before now =
    let step : (i + 1) * most ≡ i * most + most = grind arith in
    omega arith

pub count-small : (i most rows count more : ℕ) → count ≤ i * most → more ≤ most → most ≤ rows
    → i < rows → rows < 2 ^ 32 → count + more < 2 ^ 64
count-small i most rows count more before now short within few =
    let next = count-next i most count more before now in
    let all = mul-le (i + 1) most (2 ^ 32 - 1) (2 ^ 32 - 1) (omega arith) (omega arith) in
    omega arith

pub all-taken : (order : List ℕ) (i y : ℕ) → length order ≤ i → has order y ≡ true
    → has (take i order) y ≡ true
all-taken order i y past h = ap (λ ys. has ys y) (take_all i order past) ∙ h
