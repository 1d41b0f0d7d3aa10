-- Names by their places among others. The names of a list that rises by these places are first seen
-- in the order of the others.
use Rattle.std.proofs.Common.{◌≡◌, ◌≤◌, ◌+◌, ◌||◌, ℕ, Bool, true, false, not, cond, List, [], ◌∷◌}
use Rattle.std.proofs.Common.{filter, refl, sym, ap, ◌∙◌, subst, arith}
use Rattle.std.specs.List.{AllByRecursion}
use Rattle.std.specs.Str.{bytes_eq}
use Rattle.std.specs.Cmp.Lexicographic.{bytes_decides}
use Rattle.std.proofs.lemmas.Cmp.{nat_list_eq_equiv}
use Rattle.name_table.specs.FirstSeen.{first_seen, is_among}
use Rattle.builtin_index.specs.Aliases.{place_among}

pub same-name : (x y : List ℕ) → bytes_eq x y ≡ bytes_eq y x
same-name x y = nat_list_eq_equiv.symm x y

or-false : (a b : Bool) → a || b ≡ false → (a ≡ false) × (b ≡ false)
or-false true b is = absurd (cc)
or-false false b is = (refl, is)

pub filter-same : {X : Type 0} (f g : X → Bool) → ((x : X) → f x ≡ g x) → (xs : List X)
    → filter f xs ≡ filter g xs
filter-same f g same [] = refl
filter-same f g same (x ∷ xs) =
    λ i. cond (same x i) (x ∷ filter-same f g same xs i) (filter-same f g same xs i)

-- ---- lists without repeats

abbrev pub Distinct : List (List ℕ) → Type 0
Distinct [] = Unit {0}
Distinct (n ∷ ns) = (is_among ns n ≡ false) × Distinct ns

-- a name that isn't among some isn't among those kept
not-kept : (p : List ℕ → Bool) (ns : List (List ℕ)) (n : List ℕ) → is_among ns n ≡ false
    → is_among (filter p ns) n ≡ false
not-kept p [] n is = refl
not-kept p (m ∷ ns) n is =
    let parts = or-false (bytes_eq n m) (is_among ns n) is in
    go (p m) parts.0 (not-kept p ns n parts.1)
  where
    go : (b : Bool) → bytes_eq n m ≡ false → is_among (filter p ns) n ≡ false
        → is_among (cond b (m ∷ filter p ns) (filter p ns)) n ≡ false
    go true other rest = ap (λ t. t || is_among (filter p ns) n) other ∙ rest
    go false other rest = rest

kept-distinct : (p : List ℕ → Bool) (ns : List (List ℕ)) → Distinct ns → Distinct (filter p ns)
kept-distinct p [] all = tt
kept-distinct p (n ∷ ns) all = go (p n) (kept-distinct p ns all.1)
  where
    go : (b : Bool) → Distinct (filter p ns) → Distinct (cond b (n ∷ filter p ns) (filter p ns))
    go true rest = (not-kept p ns n all.0, rest)
    go false rest = rest

-- the name that is taken out isn't left
taken-out : (n : List ℕ) (ns : List (List ℕ))
    → is_among (filter (λ y. not (bytes_eq y n)) ns) n ≡ false
taken-out n [] = refl
taken-out n (m ∷ ns) = go (bytes_eq m n) refl (taken-out n ns)
  where
    go : (b : Bool) → bytes_eq m n ≡ b → is_among (filter (λ y. not (bytes_eq y n)) ns) n ≡ false
        → is_among (cond (not b) (m ∷ filter (λ y. not (bytes_eq y n)) ns)
        (filter (λ y. not (bytes_eq y n)) ns)) n
        ≡ false
    go true is rest = rest
    go false is rest
        = ap (λ t. t || is_among (filter (λ y. not (bytes_eq y n)) ns) n) (same-name n m ∙ is)
        ∙ rest

pub seen-distinct : (names : List (List ℕ)) → Distinct (first_seen names)
seen-distinct [] = tt
seen-distinct (n ∷ names) = (
  taken-out n (first_seen names),
  kept-distinct (λ y. not (bytes_eq y n)) (first_seen names) (seen-distinct names),
)

-- ---- a list that rises by its names' places

abbrev pub Rises : (List ℕ → ℕ) → List (List ℕ) → Type 0
Rises at [] = Unit {0}
Rises at (x ∷ xs) = AllByRecursion (λ (y : List ℕ). at x ≤ at y) xs × Rises at xs

abbrev pub Among : List (List ℕ) → List (List ℕ) → Type 0
Among names xs = AllByRecursion (λ (x : List ℕ). is_among names x ≡ true) xs

none-kept : (ns : List (List ℕ)) → filter (is_among []) ns ≡ []
none-kept [] = refl
none-kept (n ∷ ns) = none-kept ns

-- where the first name isn't among the others, taking it out leaves what the others keep
others-kept : (n : List ℕ) (xs ns : List (List ℕ)) → is_among ns n ≡ false
    → filter (λ y. not (bytes_eq y n)) (filter (is_among xs) ns) ≡ filter (is_among (n ∷ xs)) ns
others-kept n xs [] is = refl
others-kept n xs (m ∷ ns) is =
    let parts = or-false (bytes_eq n m) (is_among ns n) is in
    go (is_among xs m) (same-name m n ∙ parts.0) (others-kept n xs ns parts.1)
    ∙ ap (λ t. cond (t || is_among xs m) (m ∷ filter (is_among (n ∷ xs)) ns)
    (filter (is_among (n ∷ xs)) ns)) (sym (same-name m n ∙ parts.0))
  where
    go : (b : Bool) → bytes_eq m n ≡ false
        → filter (λ y. not (bytes_eq y n)) (filter (is_among xs) ns) ≡ filter (is_among (n ∷ xs)) ns
        → filter (λ y. not (bytes_eq y n))
        (cond b (m ∷ filter (is_among xs) ns) (filter (is_among xs) ns))
        ≡ cond b (m ∷ filter (is_among (n ∷ xs)) ns) (filter (is_among (n ∷ xs)) ns)
    go true other rest =
        ap (λ t. cond (not t) (m ∷ filter (λ y. not (bytes_eq y n)) (filter (is_among xs) ns))
        (filter (λ y. not (bytes_eq y n)) (filter (is_among xs) ns))) other
        ∙ ap (λ ms. m ∷ ms) rest
    go false other rest = rest

-- the first of the others is the first of the list
with-first : (n : List ℕ) (xs ns : List (List ℕ)) → is_among ns n ≡ false
    → first_seen xs ≡ filter (is_among xs) (n ∷ ns)
    → first_seen (n ∷ xs) ≡ filter (is_among (n ∷ xs)) (n ∷ ns)
with-first n xs ns apart rest =
    ap (λ ms. n ∷ filter (λ y. not (bytes_eq y n)) ms) rest
    ∙ ap (λ ms. n ∷ ms) (go (is_among xs n) ∙ others-kept n xs ns apart)
    ∙ ap (λ t. cond (t || is_among xs n) (n ∷ filter (is_among (n ∷ xs)) ns)
    (filter (is_among (n ∷ xs)) ns)) (sym itself)
  where
    itself : bytes_eq n n ≡ true
    itself = (bytes_decides n n).1 refl

    go : (b : Bool)
        → filter (λ y. not (bytes_eq y n))
        (cond b (n ∷ filter (is_among xs) ns) (filter (is_among xs) ns))
        ≡ filter (λ y. not (bytes_eq y n)) (filter (is_among xs) ns)
    go true
        = ap (λ t. cond (not t) (n ∷ filter (λ y. not (bytes_eq y n)) (filter (is_among xs) ns))
        (filter (λ y. not (bytes_eq y n)) (filter (is_among xs) ns))) itself
    go false = refl

-- the first of the others isn't in the list
abbrev Apart : List ℕ → List (List ℕ) → Type 0
Apart n xs = AllByRecursion (λ (x : List ℕ). bytes_eq x n ≡ false) xs

later-place : (n : List ℕ) (ns : List (List ℕ)) (x : List ℕ) → 1 ≤ place_among (n ∷ ns) x
    → bytes_eq x n ≡ false
later-place n ns x = go (bytes_eq x n)
  where
    go : (b : Bool) → 1 ≤ cond (not b) (1 + place_among ns x) 0 → b ≡ false
    go true low = absurd (omega (arith, low))
    go false low = refl

all-later : (n : List ℕ) (ns : List (List ℕ)) (p : ℕ) (xs : List (List ℕ)) → 1 ≤ p
    → AllByRecursion (λ (y : List ℕ). p ≤ place_among (n ∷ ns) y) xs → Apart n xs
all-later n ns p [] low all = tt
all-later n ns p (x ∷ xs) low all =
    (later-place n ns x (omega (arith, low, all.0)), all-later n ns p xs low all.1)

other-place : (n : List ℕ) (ns : List (List ℕ)) (x : List ℕ) → bytes_eq x n ≡ false
    → place_among (n ∷ ns) x ≡ 1 + place_among ns x
other-place n ns x other = ap (λ b. cond (not b) (1 + place_among ns x) 0) other

among-rest : (n : List ℕ) (ns xs : List (List ℕ)) → Apart n xs → Among (n ∷ ns) xs → Among ns xs
among-rest n ns [] apart all = tt
among-rest n ns (x ∷ xs) apart all =
    (sym (ap (λ b. b || is_among ns x) apart.0) ∙ all.0, among-rest n ns xs apart.1 all.1)

all-less : (n : List ℕ) (ns : List (List ℕ)) (x : List ℕ) (xs : List (List ℕ))
    → bytes_eq x n ≡ false → Apart n xs
    → AllByRecursion (λ (y : List ℕ). place_among (n ∷ ns) x ≤ place_among (n ∷ ns) y) xs
    → AllByRecursion (λ (y : List ℕ). place_among ns x ≤ place_among ns y) xs
all-less n ns x [] other apart all = tt
all-less n ns x (y ∷ xs) other apart all = (
  omega (arith, all.0, other-place n ns x other, other-place n ns y apart.0),
  all-less n ns x xs other apart.1 all.1,
)

rises-rest : (n : List ℕ) (ns xs : List (List ℕ)) → Apart n xs → Rises (place_among (n ∷ ns)) xs
    → Rises (place_among ns) xs
rises-rest n ns [] apart up = tt
rises-rest n ns (x ∷ xs) apart up =
    (all-less n ns x xs apart.0 apart.1 up.0, rises-rest n ns xs apart.1 up.1)

not-among : (n : List ℕ) (xs : List (List ℕ)) → Apart n xs → is_among xs n ≡ false
not-among n [] apart = refl
not-among n (x ∷ xs) apart =
    ap (λ b. b || is_among xs n) (same-name n x ∙ apart.0) ∙ not-among n xs apart.1

pub seen-by-place : (names xs : List (List ℕ)) → Distinct names → Among names xs
    → Rises (place_among names) xs → first_seen xs ≡ filter (is_among xs) names
seen-by-place [] [] distinct all up = refl
seen-by-place [] (x ∷ xs) distinct all up = absurd (cc)
seen-by-place (n ∷ ns) [] distinct all up = sym (none-kept (n ∷ ns))
seen-by-place (n ∷ ns) (x ∷ xs) distinct all up =
    go (bytes_eq x n) refl (seen-by-place (n ∷ ns) xs distinct all.1 up.1)
    (λ all up. seen-by-place ns (x ∷ xs) distinct.1 all up)
  where
    go : (b : Bool) → bytes_eq x n ≡ b → first_seen xs ≡ filter (is_among xs) (n ∷ ns)
        → (Among ns (x ∷ xs) → Rises (place_among ns) (x ∷ xs)
        → first_seen (x ∷ xs) ≡ filter (is_among (x ∷ xs)) ns)
        → first_seen (x ∷ xs) ≡ filter (is_among (x ∷ xs)) (n ∷ ns)
    go true is rest later =
        let same : n ≡ x = sym ((bytes_decides x n).0 is) in
        subst (λ y. first_seen (y ∷ xs) ≡ filter (is_among (y ∷ xs)) (n ∷ ns)) same
        (with-first n xs ns distinct.0 rest)
    go false is rest later =
        let low : 1 ≤ place_among (n ∷ ns) x = omega (arith, other-place n ns x is) in
        let apart : Apart n (x ∷ xs) = (is, all-later n ns (place_among (n ∷ ns) x) xs low up.0) in
        later (among-rest n ns (x ∷ xs) apart all) (rises-rest n ns (x ∷ xs) apart up)
        ∙ ap (λ t. cond t (n ∷ filter (is_among (x ∷ xs)) ns) (filter (is_among (x ∷ xs)) ns))
        (sym (not-among n (x ∷ xs) apart))

-- a name of some is among those first seen
or-true : (a b : Bool) → b ≡ true → a || b ≡ true
or-true true b is = refl
or-true false b is = is

kept-among : (n : List ℕ) (ns : List (List ℕ)) (x : List ℕ) → bytes_eq x n ≡ false
    → is_among ns x ≡ true → is_among (filter (λ y. not (bytes_eq y n)) ns) x ≡ true
kept-among n [] x other is = absurd (cc)
kept-among n (m ∷ ns) x other is =
    go (bytes_eq x m) refl is (λ later. kept-among n ns x other later)
  where
    kept : List (List ℕ)
    kept = filter (λ y. not (bytes_eq y n)) ns

    front : (b : Bool) → is_among kept x ≡ true → is_among (cond b (m ∷ kept) kept) x ≡ true
    front true rest = or-true (bytes_eq x m) (is_among kept x) rest
    front false rest = rest

    go : (b : Bool) → bytes_eq x m ≡ b → b || is_among ns x ≡ true
        → (is_among ns x ≡ true → is_among kept x ≡ true)
        → is_among (cond (not (bytes_eq m n)) (m ∷ kept) kept) x ≡ true
    go true same is later =
        let here : bytes_eq m n ≡ false
        = ap (λ y. bytes_eq y n) (sym ((bytes_decides x m).0 same)) ∙ other in
        ap (λ t. is_among (cond (not t) (m ∷ kept) kept) x) here
        ∙ ap (λ t. t || is_among kept x) same
    go false same is later = front (not (bytes_eq m n)) (later is)

pub seen-among : (names : List (List ℕ)) (x : List ℕ) → is_among names x ≡ true
    → is_among (first_seen names) x ≡ true
seen-among [] x is = is
seen-among (n ∷ names) x is = go (bytes_eq x n) refl is (λ later. seen-among names x later)
  where
    go : (b : Bool) → bytes_eq x n ≡ b → b || is_among names x ≡ true
        → (is_among names x ≡ true → is_among (first_seen names) x ≡ true)
        → b || is_among (filter (λ y. not (bytes_eq y n)) (first_seen names)) x ≡ true
    go true same is later = refl
    go false same is later = kept-among n (first_seen names) x same (later is)
