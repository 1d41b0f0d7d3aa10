-- How what is planned is found.
use Rattle.std.proofs.Common.{◌≡◌, ℕ, zero, suc, ◌+◌, ◌<◌, ◌≤◌, Bool, true, false, eqb, List, []}
use Rattle.std.proofs.Common.{◌∷◌, length, take, set, get_or, sym, refl, ap, ◌∙◌, subst, inl, inr}
use Rattle.std.proofs.Common.{arith}
use Rattle.std.specs.Prelude.{All, ◌||◌, ◌&&◌, ◌⊎◌, filter, slice_index_or}
use Rattle.std.specs.Global.{Vec}
use Rattle.std.proofs.lemmas.Bool.{true≢false, and_parts, and_from, or_cases, or_left, or_right}
use Rattle.std.proofs.lemmas.Bool.{eqb-true, cases_eq}
use Rattle.std.proofs.lemmas.List.{take_all, length-set, get_or-set_same, get_or-set_other}
use Rattle.std.proofs.lemmas.List.Folds.{list_any_more}
use Rattle.std.proofs.lemmas.List.Sums.{count_by-le-length}
use Rattle.relation_order.specs.Sets.{has, marked, below}
use Rattle.relation_order.specs.Search.{with_items, Marks, Inside}
use Rattle.relation_order.proofs.Lists.{has-at, has-marked, seen-inside}
use Rattle.relation_order.proofs.Saturation.{has-filter, filter-same, filter-within}
use Rattle.relation_order.proofs.SpreadLaws.{spread-first, spread-further, spread-only}
use Rattle.relation_order.proofs.SpreadLaws.{spread-within, spread-members}
use Rattle.relation_order.proofs.Finding.{has-items, front-items}
use Rattle.plan_order.specs.Plan.{requested, needs, planned}
use Rattle.relation_order.specs.Sets.{successors}
use Rattle.plan_order.specs.Lists.{items_of, among}
use Rattle.plan_order.specs.Finding.{Asked}
use Rattle.relation_order.proofs.Restricted.{same-tests}

or-false : (a : Bool) → (a || false) ≡ a
or-false true = refl
or-false false = refl

and-or : (a b c : Bool) → ((a && b) || (a && c)) ≡ (a && (b || c))
and-or true b c = refl
and-or false b c = refl

and-false : (a : Bool) → false ≡ (a && false)
and-false true = refl
and-false false = refl

pub has-found : (free : List Bool) (found found' xs : List ℕ)
    → found' ≡ with_items found (filter (λ y. slice_index_or free y false) xs) → (y : ℕ)
    → has found' y ≡ (has found y || (has (marked free) y && has xs y))
has-found free found found' xs made y =
    ap (λ zs. has zs y) made ∙ has-items found (filter (λ y. slice_index_or free y false) xs) y
    ∙ ap (λ b. has found y || b)
    (has-filter (λ y. slice_index_or free y false) xs y
    ∙ ap (λ b. b && has xs y) (sym (has-marked free y)))

requested-suc : (requests : List (Vec ℕ)) (i : ℕ) (v : Vec ℕ) → i < length requests
    → v ≡ get_or requests i v → (y : ℕ)
    → requested (items_of (take (suc i) requests)) y
    ≡ (requested (items_of (take i requests)) y || has v.items y)
requested-suc [] i v l e y = absurd (omega arith)
requested-suc (w ∷ ws) zero v l e y =
    or-false (has w.items y) ∙ ap (λ (u : Vec ℕ). has u.items y) (sym e)
requested-suc (w ∷ ws) (suc i) v l e y =
    ap (λ b. has w.items y || b) (requested-suc ws i v (omega arith) e y)
    ∙ sym (or-assoc (has w.items y) (requested (items_of (take i ws)) y) (has v.items y))
  where
    or-assoc : (a b c : Bool) → ((a || b) || c) ≡ (a || (b || c))
    or-assoc true b c = refl
    or-assoc false b c = refl

pub asked-none : (n : ℕ) (free : List Bool) (requests : List (Vec ℕ)) (found : List ℕ)
    (seen : List Bool)
    → length seen ≡ n → Marks found seen → found ≡ [] → Asked n free requests 0 found seen
asked-none n free requests found seen long marks e =
    record {
      long = long;
      marks = marks;
      is
          = λ y. ap (λ xs. has xs y) e ∙ and-false (has (marked free) y)
          ∙ ap (λ rs. has (marked free) y && requested (items_of rs) y)
          (sym (none requests));
    }
  where
    none : (rs : List (Vec ℕ)) → take 0 rs ≡ []
    none [] = refl
    none (r ∷ rs) = refl

pub asked-more : (n : ℕ) (free : List Bool) (requests : List (Vec ℕ)) (i : ℕ) (v : Vec ℕ)
    (found found' : List ℕ) (seen seen' : List Bool)
    → Asked n free requests i found seen → i < length requests → v ≡ get_or requests i v
    → found' ≡ with_items found (filter (λ y. slice_index_or free y false) v.items)
    → Marks found' seen' → length seen' ≡ length seen → Asked n free requests (i + 1) found' seen'
asked-more n free requests i v found found' seen seen' a l e made marks long =
    record {
      long = long ∙ a.long;
      marks = marks;
      is = λ y.
          has-found free found found' v.items made y
          ∙ ap (λ b. b || (has (marked free) y && has v.items y)) (a.is y)
          ∙ and-or (has (marked free) y) (requested (items_of (take i requests)) y) (has v.items y)
          ∙ ap (λ b. has (marked free) y && b) (sym (requested-suc requests i v l e y))
          ∙ ap (λ k. has (marked free) y && requested (items_of (take k requests)) y)
          (let s : suc i ≡ i + 1 = omega arith in s);
    }

-- The finding so far: those at the first places of what was found have been followed. Modules go to
-- those in `before` and in `after`.
pub record Progress (count : ℕ) (free : List Bool) (before after : ℕ → List ℕ)
    (requests : List (Vec ℕ)) (next : ℕ) (found : List ℕ) (seen : List Bool) : Type 0 where
  pub long : length seen ≡ count
  pub marks : Marks found seen
  pub within : next ≤ length found
  pub sound : (y : ℕ) → has found y ≡ true
      → has (planned (among before) (marked free) after (items_of requests)) y ≡ true
  pub first : (y : ℕ) → has (marked free) y ≡ true → requested (items_of requests) y ≡ true
      → has found y ≡ true
  pub closed : (x y : ℕ) → has (take next found) x ≡ true → has (marked free) y ≡ true
      → needs (among before) after x y ≡ true → has found y ≡ true

module _ {count : ℕ} {free : List Bool} {before after : ℕ → List ℕ} {requests : List (Vec ℕ)}
    {next : ℕ} {found : List ℕ} {seen : List Bool} where
  pub room : Progress count free before after requests next found seen → length found ≤ count
  room p = omega (arith, p.marks.count, p.long, count_by-le-length (λ (b : Bool). b) seen)

  pub inside : Progress count free before after requests next found seen → (x : ℕ)
      → has found x ≡ true → x < count
  inside p x h = let l = seen-inside seen x (p.marks.same x ∙ h) in omega (arith, p.long, l)

  pub inside-at : Progress count free before after requests next found seen → (i x : ℕ)
      → i < length found → x ≡ get_or found i x → x < count
  inside-at p i x l is = inside p x (has-at found i x l is)

pub started : (count : ℕ) (free : List Bool) (before after : ℕ → List ℕ) (requests : List (Vec ℕ))
    (i : ℕ) (found : List ℕ) (seen : List Bool)
    → Asked count free requests i found seen → length requests ≤ i
    → Progress count free before after requests 0 found seen
started count free before after requests i found seen a l =
    record {
      long = a.long;
      marks = a.marks;
      within = omega arith;
      sound
          = λ y h. let w
          = and_parts _ _ (sym (is y) ∙ h) in spread-first (needs (among before) after)
          (marked free) (requested (items_of requests)) y w.1 w.0;
      first = λ y m t. is y ∙ and_from _ _ m t;
      closed = λ x y h m t. absurd (true≢false (sym h ∙ ap (λ xs. has xs x) (none found)));
    }
  where
    is : (y : ℕ) → has found y ≡ (has (marked free) y && requested (items_of requests) y)
    is y
        = a.is y
        ∙ ap (λ rs. has (marked free) y && requested (items_of rs) y) (take_all i requests l)

    none : (xs : List ℕ) → take 0 xs ≡ []
    none [] = refl
    none (x ∷ xs) = refl

-- one module more was followed
pub followed : (count : ℕ) (free : List Bool) (before after : ℕ → List ℕ) (requests : List (Vec ℕ))
    (next x : ℕ) (bs fs found middle found' : List ℕ) (seen seen' : List Bool)
    → Progress count free before after requests next found seen → next < length found
    → x ≡ get_or found next x → bs ≡ before x → fs ≡ after x
    → middle ≡ with_items found (filter (λ y. slice_index_or free y false) bs)
    → found' ≡ with_items middle (filter (λ y. slice_index_or free y false) fs) → Marks found' seen'
    → length seen' ≡ count → Progress count free before after requests (next + 1) found' seen'
followed count free before after requests next x bs fs found middle found' seen seen' p l x-is bs-is
    fs-is made made' marks long
    =
    record {
      long = long;
      marks = marks;
      within = omega (arith, fits.1);
      sound = λ y h. is-sound y (or_cases _ _ (sym (last y) ∙ h));
      first = λ y m e. old y (p.first y m e);
      closed = closed';
    }
  where
    now : (y : ℕ) → has middle y ≡ (has found y || (has (marked free) y && has bs y))
    now = has-found free found middle bs made

    last : (y : ℕ) → has found' y ≡ (has middle y || (has (marked free) y && has fs y))
    last = has-found free middle found' fs made'

    old : (y : ℕ) → has found y ≡ true → has found' y ≡ true
    old y h = last y ∙ or_left _ _ (now y ∙ or_left _ _ h)

    has-x : has found x ≡ true
    has-x = has-at found next x l x-is

    fits : (take (next + 1) found' ≡ take (next + 1) found) × (next + 1 ≤ length found')
    fits =
        let a
        = front-items found (filter (λ y. slice_index_or free y false) bs) (next + 1)
        (omega arith) in
        let k : next + 1 ≤ length middle = let a' = a.1 in omega (arith, ap length made) in
        let b = front-items middle (filter (λ y. slice_index_or free y false) fs) (next + 1) k in (
          ap (take (next + 1)) made' ∙ b.0 ∙ ap (take (next + 1)) made ∙ a.0,
          let b' = b.1 in omega (arith, ap length made'),
        )

    needed : (y : ℕ) → has (marked free) y ≡ true → needs (among before) after x y ≡ true
        → has (planned (among before) (marked free) after (items_of requests)) y ≡ true
    needed y m t
        = spread-further (needs (among before) after) (marked free) (requested (items_of requests))
        x y (p.sound x has-x) t m

    was-middle : (y : ℕ) → (has found y ≡ true) ⊎ ((has (marked free) y && has bs y) ≡ true)
        → has (planned (among before) (marked free) after (items_of requests)) y ≡ true
    was-middle y (inl h) = p.sound y h
    was-middle y (inr m)
        = let u
        = and_parts _ _ m in needed y u.0 (or_left _ _ (ap (λ xs. has xs y) (sym bs-is) ∙ u.1))

    is-sound : (y : ℕ) → (has middle y ≡ true) ⊎ ((has (marked free) y && has fs y) ≡ true)
        → has (planned (among before) (marked free) after (items_of requests)) y ≡ true
    is-sound y (inl h) = was-middle y (or_cases _ _ (sym (now y) ∙ h))
    is-sound y (inr m)
        = let u
        = and_parts _ _ m in needed y u.0 (or_right _ _ (ap (λ xs. has xs y) (sym fs-is) ∙ u.1))

    here : (y : ℕ) → has (marked free) y ≡ true
        → (among before x y ≡ true) ⊎ (has (after x) y ≡ true) → has found' y ≡ true
    here y m (inl t)
        = last y
        ∙ or_left _ _ (now y ∙ or_right _ _ (and_from _ _ m (ap (λ xs. has xs y) bs-is ∙ t)))
    here y m (inr t) = last y ∙ or_right _ _ (and_from _ _ m (ap (λ xs. has xs y) fs-is ∙ t))

    closed' : (z y : ℕ) → has (take (next + 1) found') z ≡ true → has (marked free) y ≡ true
        → needs (among before) after z y ≡ true → has found' y ≡ true
    closed' z y h m t =
        let h' : (has (take next found) z || eqb z (get_or found next x)) ≡ true
        = sym (list_any_more (eqb z) found next x l) ∙ ap (λ xs. has xs z) (sym fits.0) ∙ h in
        elim (or_cases _ _ h') [
          | inl n ↦ old y (p.closed z y n m t)
          | inr s ↦ here y m
              (or_cases _ _
              (ap (λ u. needs (among before) after u y)
              (x-is ∙ sym (eqb-true z (get_or found next x) s))
              ∙ t))
        ]

module _ (count : ℕ) (free : List Bool) (before after : ℕ → List ℕ) (requests : List (Vec ℕ))
    (next : ℕ) (found : List ℕ) (seen : List Bool)
    (p : Progress count free before after requests next found seen) (l : length found ≤ next) where
  pub all-found : (y : ℕ)
      → has (planned (among before) (marked free) after (items_of requests)) y ≡ true
      → has found y ≡ true
  all-found
      = spread-only (needs (among before) after) (marked free) (requested (items_of requests))
      (λ y. has found y ≡ true)
      (λ y s e. p.first y s e)
      (λ x y h s e. p.closed x y (ap (λ xs. has xs x) (take_all next found l) ∙ h) s e)

  pub ended : length free ≡ count
      → marked seen ≡ planned (among before) (marked free) after (items_of requests)
  ended long =
      ap (λ n. filter (λ y. slice_index_or seen y false) (below n)) (p.long ∙ sym long)
      ∙ filter-same (λ y. slice_index_or seen y false)
      (has (planned (among before) (marked free) after (items_of requests)))
      (below (length free)) (λ y _. p.marks.same y ∙ same-tests _ _ (p.sound y) (all-found y))
      ∙ sym (filter-within (has (planned (among before) (marked free) after (items_of requests)))
      (λ y. slice_index_or free y false)
      (λ y h. sym (has-marked free y)
      ∙ spread-within (needs (among before) after) (marked free)
      (requested (items_of requests)) y h) (below (length free)))
      ∙ sym (spread-members (needs (among before) after) (marked free)
      (requested (items_of requests)))

-- ---- the lists of what was followed

-- The lists have what each of some modules goes to.
abbrev pub Follows : (ℕ → List ℕ) → List ℕ → List (Vec ℕ) → Type 0
Follows needed done lists = (x : ℕ) → has done x ≡ true → successors lists x ≡ needed x

pub follows-none : (needed : ℕ → List ℕ) (xs : List ℕ) (lists : List (Vec ℕ))
    → Follows needed (take 0 xs) lists
follows-none needed [] lists x h = absurd (true≢false (sym h))
follows-none needed (y ∷ ys) lists x h = absurd (true≢false (sym h))

successors-same : (lists : List (Vec ℕ)) (x : ℕ) (v : Vec ℕ) → x < length lists
    → successors (set lists x v) x ≡ v.items
successors-same [] x v l = absurd (omega arith)
successors-same (w ∷ ws) zero v l = refl
successors-same (w ∷ ws) (suc x) v l = successors-same ws x v (omega arith)

successors-other : (lists : List (Vec ℕ)) (x z : ℕ) (v : Vec ℕ) → (z ≡ x → ⊥)
    → successors (set lists x v) z ≡ successors lists z
successors-other [] x z v ne = refl
successors-other (w ∷ ws) zero zero v ne = absurd (ne refl)
successors-other (w ∷ ws) zero (suc z) v ne = refl
successors-other (w ∷ ws) (suc x) zero v ne = refl
successors-other (w ∷ ws) (suc x) (suc z) v ne = successors-other ws x z v (λ e. ne (ap suc e))

pub follows-more : (needed : ℕ → List ℕ) (found found' : List ℕ) (next x : ℕ) (lists : List (Vec ℕ))
    (v : Vec ℕ)
    → Follows needed (take next found) lists → take (next + 1) found' ≡ take (next + 1) found
    → next < length found → x ≡ get_or found next x → x < length lists → v.items ≡ needed x
    → Follows needed (take (next + 1) found') (set lists x v)
follows-more needed found found' next x lists v old front l x-is low is z h =
    elim (cases_eq z x) [
      | inl s ↦ ap (successors (set lists x v)) s ∙ successors-same lists x v low ∙ is
          ∙ ap needed (sym s)
      | inr ne ↦ successors-other lists x z v ne
          ∙ old z (elim
          (or_cases _ _
          (sym (list_any_more (eqb z) found next x l) ∙ ap (λ xs. has xs z) (sym front)
          ∙ h)) [
            | inl m ↦ m
            | inr s ↦ absurd (ne (eqb-true z (get_or found next x) s ∙ sym x-is))
          ])
    ]

-- the places of what was followed stay
pub front-stays : (free : List Bool) (bs fs found middle found' : List ℕ) (n : ℕ)
    → middle ≡ with_items found (filter (λ y. slice_index_or free y false) bs)
    → found' ≡ with_items middle (filter (λ y. slice_index_or free y false) fs) → n ≤ length found
    → take n found' ≡ take n found
front-stays free bs fs found middle found' n made made' l =
    let a = front-items found (filter (λ y. slice_index_or free y false) bs) n l in
    let k : n ≤ length middle = let a' = a.1 in omega (arith, ap length made) in
    ap (take n) made' ∙ (front-items middle (filter (λ y. slice_index_or free y false) fs) n k).0
    ∙ ap (take n) made ∙ a.0

pub inside-set : (n : ℕ) (lists : List (Vec ℕ)) (x : ℕ) (v : Vec ℕ) → Inside n lists
    → All (λ y. y < n) v.items → Inside n (set lists x v)
inside-set n lists x v old new k d l =
    elim (cases_eq k x) [
      | inl s ↦
          let e : get_or (set lists x v) k d ≡ v
          = ap (λ m. get_or (set lists x v) m d) s
          ∙ get_or-set_same lists x v d (omega (arith, length-set lists x v)) in
          subst (λ (u : Vec ℕ). All (λ y. y < n) u.items) (sym e) new
      | inr ne ↦ subst (λ (u : Vec ℕ). All (λ y. y < n) u.items)
          (sym (get_or-set_other lists x k v d ne)) (old k d (omega (arith, length-set lists x v)))
    ]

-- all that is planned was found, and has its lists
pub planned-follows : (count : ℕ) (free : List Bool) (before after needed : ℕ → List ℕ)
    (requests : List (Vec ℕ)) (next : ℕ) (found : List ℕ) (seen : List Bool)
    (lists : List (Vec ℕ))
    → Progress count free before after requests next found seen → length found ≤ next
    → Follows needed (take next found) lists
    → Follows needed (planned (among before) (marked free) after (items_of requests)) lists
planned-follows count free before after needed requests next found seen lists p l old x h =
    old x (ap (λ xs. has xs x) (take_all next found l)
    ∙ all-found count free before after requests next found seen p l x h)
