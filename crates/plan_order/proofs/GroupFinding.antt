-- How the finding of a group goes on.
use Rattle.std.proofs.Common.{◌≡◌, ℕ, ◌+◌, ◌<◌, ◌≤◌, Bool, true, false, cond, eqb, List, [], ◌∷◌}
use Rattle.std.proofs.Common.{◌++◌, length, take, get_or, sym, refl, ap, ◌∙◌, subst, inl, inr}
use Rattle.std.proofs.Common.{arith}
use Rattle.std.specs.Prelude.{◌||◌, ◌&&◌, ◌⊎◌, filter, slice_index_or}
use Rattle.std.specs.Global.{Vec}
use Rattle.std.proofs.lemmas.Bool.{true≢false, cases_Bool, and_parts, and_from, or_cases, or_left}
use Rattle.std.proofs.lemmas.Bool.{or_right, eqb-true, false_from_ne_true}
use Rattle.std.proofs.lemmas.List.Folds.{list_any_more}
use Rattle.std.proofs.lemmas.List.{append-nil, append_assoc, take_all}
use Rattle.std.proofs.lemmas.List.Sums.{count_by-le-length}
use Rattle.relation_order.specs.Sets.{has, goes, marked, successors}
use Rattle.relation_order.specs.Search.{with_item, with_items, Marks}
use Rattle.relation_order.specs.Placing.{Closed}
use Rattle.relation_order.proofs.Lists.{has-at, has-marked, seen-inside}
use Rattle.relation_order.proofs.Saturation.{has-filter}
use Rattle.relation_order.proofs.SpreadLaws.{spread-first, spread-further, spread-only}
use Rattle.relation_order.proofs.Finding.{has-items, front-items}
use Rattle.plan_order.specs.Plan.{undone, members}
use Rattle.plan_order.specs.Finding.{FoundMore}
use Rattle.plan_order.proofs.PlanKeeps.{has-append, undone-is, is-undone}
use Rattle.relation_order.proofs.Restricted.{same-tests}

-- new ones after those before
abbrev pub More : List ℕ → List ℕ → Type 0
More base found =
    (new : List ℕ) × (found ≡ base ++ new) × ((y : ℕ) → has new y ≡ true → has base y ≡ false)

more-none : (base : List ℕ) → More base base
more-none base = ([], sym (append-nil base), λ y h. absurd (true≢false (sym h)))

more-item : (base found : List ℕ) (x : ℕ) → More base found → More base (with_item found x)
more-item base found x w = go (has found x) refl
  where
    go : (b : Bool) → has found x ≡ b → More base (cond b found (found ++ x ∷ []))
    go true e = w
    go false e = (
      w.0 ++ x ∷ [],
      ap (λ xs. xs ++ x ∷ []) w.1 ∙ append_assoc base w.0 (x ∷ []),
      λ y h. elim (or_cases (has w.0 y) (has (x ∷ []) y) (sym (has-append w.0 (x ∷ []) y) ∙ h)) [
        | inl m ↦ w.2 y m
        | inr s ↦
            elim (or_cases (eqb y x) false s) [
              | inl t ↦ ap (has base) (eqb-true y x t)
                  ∙ false_from_ne_true _
                  (λ k. true≢false
                  (sym (ap (λ xs. has xs x) w.1 ∙ has-append base w.0 x ∙ or_left _ _ k)
                  ∙ e))
              | inr bad ↦ absurd (true≢false (sym bad))
            ]
      ],
    )

pub more-items : (base found xs : List ℕ) → More base found → More base (with_items found xs)
more-items base found [] w = w
more-items base found (x ∷ xs) w = more-items base (with_item found x) xs (more-item base found x w)

-- The finding so far: those at the first places of what was found have been followed.
pub record Progress (lists : List (Vec ℕ)) (free : List Bool) (request base : List ℕ) (next : ℕ)
    (found : List ℕ) (seen : List Bool) : Type 0 where
  pub long : length seen ≡ length lists
  pub marks : Marks found seen
  pub within : next ≤ length found
  pub more : More base found
  pub sound : (y : ℕ) → has found y ≡ true
      → (has base y || has (members (goes lists) (marked free) base request) y) ≡ true
  pub first : (y : ℕ) → has (marked free) y ≡ true → has request y ≡ true → has found y ≡ true
  pub closed : (x y : ℕ) → has (take next found) x ≡ true → has (marked free) y ≡ true
      → goes lists x y ≡ true → has found y ≡ true

pub room : {lists : List (Vec ℕ)} {free : List Bool} {request base : List ℕ} {next : ℕ}
    {found : List ℕ} {seen : List Bool}
    → Progress lists free request base next found seen → length found ≤ length lists
room {seen = seen} p =
    omega (arith, p.marks.count, p.long, count_by-le-length (λ (b : Bool). b) seen)

pub inside : {lists : List (Vec ℕ)} {free : List Bool} {request base : List ℕ} {next : ℕ}
    {found : List ℕ} {seen : List Bool}
    → Progress lists free request base next found seen → (x : ℕ) → has found x ≡ true
    → x < length lists
inside {seen = seen} p x h =
    let l = seen-inside seen x (p.marks.same x ∙ h) in omega (arith, p.long, l)

free-of : (free : List Bool) (xs : List ℕ) (y : ℕ)
    → has (filter (λ y. slice_index_or free y false) xs) y ≡ (has (marked free) y && has xs y)
free-of free xs y =
    has-filter (λ y. slice_index_or free y false) xs y
    ∙ ap (λ b. b && has xs y) (sym (has-marked free y))

pub started : (lists : List (Vec ℕ)) (free : List Bool) (request base found : List ℕ)
    (seen : List Bool)
    → Closed (goes lists) (marked free) base
    → found ≡ with_items base (filter (λ y. slice_index_or free y false) request) → Marks found seen
    → length seen ≡ length lists → Progress lists free request base (length base) found seen
started lists free request base found seen shut made marks long =
    record {
      long = long;
      marks = marks;
      within
          = omega (
            arith,
            (front-items base (filter (λ y. slice_index_or free y false) request) (length base)
                (omega arith)).1,
            ap length made,
          );
      more
          = subst (More base) (sym made)
          (more-items base base (filter (λ y. slice_index_or free y false) request)
          (more-none base));
      sound = λ y h. is-sound y (or_cases (has base y) _ (sym (found-is y) ∙ h));
      first = λ y m e. found-is y ∙ or_right _ _ (and_from _ _ m e);
      closed
          = λ x y h m e. found-is y
          ∙ or_left _ _ (shut x y (ap (λ xs. has xs x) (sym front) ∙ h) m e);
    }
  where
    found-is : (y : ℕ) → has found y ≡ (has base y || (has (marked free) y && has request y))
    found-is y
        = ap (λ xs. has xs y) made
        ∙ has-items base (filter (λ y. slice_index_or free y false) request) y
        ∙ ap (λ b. has base y || b) (free-of free request y)

    front : take (length base) found ≡ base
    front
        = ap (take (length base)) made
        ∙ (front-items base (filter (λ y. slice_index_or free y false) request) (length base)
        (omega arith)).0
        ∙ take_all (length base) base (omega arith)

    go : (y : ℕ) → has (marked free) y ≡ true → has request y ≡ true
        → (has base y ≡ true) ⊎ (has base y ≡ false)
        → (has base y || has (members (goes lists) (marked free) base request) y) ≡ true
    go y m e (inl d) = or_left _ _ d
    go y m e (inr f)
        = or_right _ _
        (spread-first (goes lists) (undone (marked free) base) (has request) y e
        (is-undone (goes lists) (marked free) base y f m))

    is-sound : (y : ℕ) → (has base y ≡ true) ⊎ ((has (marked free) y && has request y) ≡ true)
        → (has base y || has (members (goes lists) (marked free) base request) y) ≡ true
    is-sound y (inl d) = or_left _ _ d
    is-sound y (inr m) = let w = and_parts _ _ m in go y w.0 w.1 (cases_Bool (has base y))

pub followed : (lists : List (Vec ℕ)) (free : List Bool) (request base : List ℕ) (next x : ℕ)
    (items found found' : List ℕ) (seen seen' : List Bool)
    → Closed (goes lists) (marked free) base → Progress lists free request base next found seen
    → next < length found → x ≡ get_or found next x → items ≡ successors lists x
    → found' ≡ with_items found (filter (λ y. slice_index_or free y false) items)
    → Marks found' seen' → length seen' ≡ length lists
    → Progress lists free request base (next + 1) found' seen'
followed lists free request base next x items found found' seen seen' shut p l x-is is made marks long
    =
    record {
      long = long;
      marks = marks;
      within
          = omega (
            arith,
            (front-items found (filter (λ y. slice_index_or free y false) items) next
                (omega arith)).1,
            ap length made,
          );
      more
          = subst (More base) (sym made)
          (more-items base found (filter (λ y. slice_index_or free y false) items) p.more);
      sound = λ y h. is-sound y (or_cases (has found y) _ (sym (found-is y) ∙ h));
      first = λ y m e. old y (p.first y m e);
      closed = closed';
    }
  where
    found-is : (y : ℕ) → has found' y ≡ (has found y || (has (marked free) y && has items y))
    found-is y
        = ap (λ xs. has xs y) made
        ∙ has-items found (filter (λ y. slice_index_or free y false) items) y
        ∙ ap (λ b. has found y || b) (free-of free items y)

    old : (y : ℕ) → has found y ≡ true → has found' y ≡ true
    old y h = found-is y ∙ or_left _ _ h

    has-x : has found x ≡ true
    has-x = has-at found next x l x-is

    goes-x : (y : ℕ) → goes lists x y ≡ has items y
    goes-x y = ap (λ xs. has xs y) (sym is)

    go : (y : ℕ) → has (marked free) y ≡ true → goes lists x y ≡ true
        → (has base y ≡ true) ⊎ (has base y ≡ false)
        → (has base x ≡ true) ⊎ (has (members (goes lists) (marked free) base request) x ≡ true)
        → (has base y || has (members (goes lists) (marked free) base request) y) ≡ true
    go y m e (inl d) w = or_left _ _ d
    go y m e (inr f) (inl d) = or_left _ _ (shut x y d m e)
    go y m e (inr f) (inr n)
        = or_right _ _
        (spread-further (goes lists) (undone (marked free) base) (has request) x y n e
        (is-undone (goes lists) (marked free) base y f m))

    is-sound : (y : ℕ) → (has found y ≡ true) ⊎ ((has (marked free) y && has items y) ≡ true)
        → (has base y || has (members (goes lists) (marked free) base request) y) ≡ true
    is-sound y (inl h) = p.sound y h
    is-sound y (inr m)
        = let w
        = and_parts _ _ m in go y w.0 (goes-x y ∙ w.1) (cases_Bool (has base y))
        (or_cases _ _ (p.sound x has-x))

    closed' : (z y : ℕ) → has (take (next + 1) found') z ≡ true → has (marked free) y ≡ true
        → goes lists z y ≡ true → has found' y ≡ true
    closed' z y h n e =
        let front : take (next + 1) found' ≡ take (next + 1) found
        = ap (take (next + 1)) made
        ∙ (front-items found (filter (λ y. slice_index_or free y false) items) (next + 1)
        (omega arith)).0 in
        let h' : (has (take next found) z || eqb z (get_or found next x)) ≡ true
        = sym (list_any_more (eqb z) found next x l) ∙ ap (λ xs. has xs z) (sym front) ∙ h in
        elim (or_cases _ _ h') [
          | inl m ↦ old y (p.closed z y m n e)
          | inr s ↦ found-is y
              ∙ or_right _ _
              (and_from _ _ n
              (sym (goes-x y)
              ∙ ap (λ w. goes lists w y)
              (x-is ∙ sym (eqb-true z (get_or found next x) s))
              ∙ e))
        ]

pub ended : (lists : List (Vec ℕ)) (free : List Bool) (request base : List ℕ) (next : ℕ)
    (found : List ℕ) (seen : List Bool)
    → Progress lists free request base next found seen → length found ≤ next
    → FoundMore (goes lists) (marked free) request base found
ended lists free request base next found seen p l =
    record { more = p.more; same = λ y. same-tests _ _ (p.sound y) (λ h. there y (or_cases _ _ h)) }
  where
    all : take next found ≡ found
    all = take_all next found l

    there : (y : ℕ)
        → (has base y ≡ true) ⊎ (has (members (goes lists) (marked free) base request) y ≡ true)
        → has found y ≡ true
    there y (inl d) = ap (λ xs. has xs y) p.more.1 ∙ has-append base p.more.0 y ∙ or_left _ _ d
    there y (inr m) =
        spread-only (goes lists) (undone (marked free) base) (has request) (λ y. has found y ≡ true)
        (λ y s e. p.first y (undone-is (goes lists) (marked free) base y s).1 e)
        (λ x y h s e. p.closed x y (ap (λ xs. has xs x) all ∙ h)
        (undone-is (goes lists) (marked free) base y s).1 e) y m
