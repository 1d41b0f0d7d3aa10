-- Of paths in order of name, rank and bytes, the first of each name are the chosen ones.
use Rattle.std.proofs.Common.{◌≡◌, ℕ, ◌≤◌, Bool, true, false, cond, List, [], ◌∷◌, length, sym}
use Rattle.std.proofs.Common.{refl, ap, subst, ◌∙◌, inl, inr, arith, Ordering, Option, Some, None}
use Rattle.std.specs.Prelude.{not, ◌&&◌, ◌||◌, map}
use Rattle.std.specs.List.{AllByRecursion, list_any, list_all, count_by}
use Rattle.std.specs.List.Sorted.{IsPermutation}
use Rattle.std.specs.Str.{bytes_eq}
use Rattle.std.specs.Cmp.{IsTotalOrder, on_total, then_total, nat_cmp_total}
use Rattle.std.specs.Cmp.Lexicographic.{nat_list_cmp_total}
use Rattle.std.specs.Ordering.{nat_cmp, ordering_then, is_lt}
use Rattle.std.specs.declared.cmp.Ordering.TheVariants.{Less, Equal, Greater}
use Rattle.std.specs.FinMap.{IsAntisymmetric, nat_cmp-IsAntisymmetric, slice_cmp-IsAntisymmetric}
use Rattle.std.proofs.lemmas.Bool.{cases_Bool, true≢false, false_from_ne_true, and_parts, and_from}
use Rattle.std.proofs.lemmas.Cmp.{tied_itself}
use Rattle.std.proofs.lemmas.Slice.Eq.{bytes_eq-Decides}
use Rattle.std.proofs.lemmas.List.{length-map}
use Rattle.std.proofs.lemmas.List.Sorted.{list_any-IsPermutation, IsPermutation-map}
use Rattle.std.proofs.lemmas.List.Sums.{sum_by-cons}
use Rattle.km_names.specs.Path.{module_name}
use Rattle.km_names.specs.Order.{by_bytes}
use Rattle.mod_tree.specs.Tree.{rank, choice_cmp, is_chosen, name_count}
use Rattle.mod_tree.specs.Chosen.{is_name, heads, HasChosen}
use Rattle.mod_tree.proofs.Ascending.{Ascends, IsStrict, all-has, sorted-cons, below-from_other}
use Rattle.mod_tree.proofs.Ascending.{equal-from_both, not_below_itself, bytes_eq-other, strict-low}
use Rattle.mod_tree.proofs.Ascending.{strict-rest, any-eq, any-filter, in_order-is}

pub bytes_total : IsTotalOrder by_bytes
bytes_total = nat_list_cmp_total

pub bytes_same : IsAntisymmetric by_bytes
bytes_same = slice_cmp-IsAntisymmetric nat_cmp-IsAntisymmetric

-- by name, rank and bytes
abbrev pub full_cmp : List (List ℕ) → List ℕ → List ℕ → Ordering
full_cmp search p q =
    ordering_then
    (ordering_then (by_bytes (module_name p) (module_name q))
    (nat_cmp (rank search p) (rank search q))) (by_bytes p q)

pub choice_total : (search : List (List ℕ)) → IsTotalOrder (choice_cmp search)
choice_total search = then_total (on_total (rank search) nat_cmp_total) nat_list_cmp_total

then-equal : (a b : Ordering) → ordering_then a b ≡ Equal → b ≡ Equal
then-equal Less b e = cc
then-equal Equal b e = e
then-equal Greater b e = cc

pub choice_same : (search : List (List ℕ)) → IsAntisymmetric (choice_cmp search)
choice_same search p q e =
    bytes_same p q (then-equal (nat_cmp (rank search p) (rank search q)) (by_bytes p q) e)

first-part : (a b c : Ordering) → is_lt (ordering_then (ordering_then a b) c) ≡ false
    → is_lt a ≡ false
first-part Less b c e = absurd (true≢false e)
first-part Equal b c e = refl
first-part Greater b c e = refl

-- the name of one after another isn't below its
name-after : (search : List (List ℕ)) (q p : List ℕ) → is_lt (full_cmp search q p) ≡ false
    → is_lt (by_bytes (module_name q) (module_name p)) ≡ false
name-after search q p e = first-part (by_bytes (module_name q) (module_name p)) _ _ e

-- and one of the same name isn't before it in the order of choice
choice-after : (search : List (List ℕ)) (q p : List ℕ)
    → bytes_eq (module_name p) (module_name q) ≡ true → is_lt (full_cmp search q p) ≡ false
    → is_lt (choice_cmp search q p) ≡ false
choice-after search q p named e =
    let tie : by_bytes (module_name q) (module_name p) ≡ Equal
    = ap (by_bytes (module_name q))
    ((bytes_eq-Decides (module_name p) (module_name q)).0 named)
    ∙ tied_itself bytes_total (module_name q) in
    ap (λ r. is_lt (ordering_then (ordering_then r (nat_cmp (rank search q) (rank search p)))
    (by_bytes q p))) (sym tie)
    ∙ e

abbrev pub NotBelow : Option (List ℕ) → List ℕ → Type 0
NotBelow None p = Unit {0}
NotBelow (Some m) p = is_lt (by_bytes (module_name p) m) ≡ false

names-after : (search : List (List ℕ)) (p : List ℕ) (ps : List (List ℕ))
    → AllByRecursion (λ q. is_lt (full_cmp search q p) ≡ false) ps
    → AllByRecursion (NotBelow (Some (module_name p))) ps
names-after search p [] all = tt
names-after search p (q ∷ ps) all = (name-after search q p all.0, names-after search p ps all.1)

-- nothing after a path comes before it in the order of choice
none-before : (search : List (List ℕ)) (p : List ℕ) (ps : List (List ℕ))
    → AllByRecursion (λ q. is_lt (full_cmp search q p) ≡ false) ps
    → list_any (λ r. bytes_eq (module_name r) (module_name p) && is_lt (choice_cmp search r p)) ps
    ≡ false
none-before search p [] all = refl
none-before search p (r ∷ ps) all =
    elim (cases_Bool (bytes_eq (module_name r) (module_name p))) [
      | inl named ↦
          let back : bytes_eq (module_name p) (module_name r) ≡ true
          = (bytes_eq-Decides _ _).1
          (sym ((bytes_eq-Decides (module_name r) (module_name p)).0 named)) in
          rw (named, choice-after search r p back all.0) (none-before search p ps all.1)
      | inr other ↦ rw other (none-before search p ps all.1)
    ]

-- a name that isn't below m, and below which m isn't, is m
not_name : (prev : Option (List ℕ)) (p q : List ℕ) → NotBelow prev p
    → is_lt (by_bytes (module_name q) (module_name p)) ≡ false
    → bytes_eq (module_name p) (module_name q) ≡ false → is_name prev (module_name q) ≡ false
not_name None p q low after other = refl
not_name (Some m) p q low after other = false_from_ne_true (bytes_eq m (module_name q)) (λ is.
    let e : m ≡ module_name q = (bytes_eq-Decides m (module_name q)).0 is in
    bytes_eq-other (module_name p) (module_name q) other
    (equal-from_both bytes_total bytes_same (module_name p) (module_name q)
    (subst (λ n. is_lt (by_bytes (module_name p) n) ≡ false) e low) after))

same-name : (prev : Option (List ℕ)) (n m : List ℕ) → bytes_eq n m ≡ true
    → is_name prev m ≡ is_name prev n
same-name prev n m e = ap (is_name prev) (sym ((bytes_eq-Decides n m).0 e))

prev-name : (prev : Option (List ℕ)) (n m : List ℕ) → is_name prev n ≡ true
    → is_name prev m ≡ bytes_eq n m
prev-name None n m e = absurd (true≢false (sym e))
prev-name (Some k) n m e = ap (λ x. bytes_eq x m) ((bytes_eq-Decides k n).0 e)

same-path : (q p : List ℕ) → bytes_eq (module_name p) (module_name q) ≡ false → bytes_eq q p ≡ false
same-path q p other =
    false_from_ne_true (bytes_eq q p)
    (λ is. bytes_eq-other (module_name p) (module_name q) other
    (ap module_name (sym ((bytes_eq-Decides q p).0 is))))

-- the shapes in which the tests of the cases below come
ends-false : (a b c d : Bool) → (a && (b && false)) ≡ ((c || a) && (d && false))
ends-false false b c false =
    elim c as (λ v. false ≡ ((v || false) && false)) [ true ↦ refl | false ↦ refl ]
ends-false false b c true =
    elim c as (λ v. false ≡ ((v || false) && false)) [ true ↦ refl | false ↦ refl ]
ends-false true b c d =
    elim b as (λ v. (v && false) ≡ ((c || true) && (d && false))) [
      | true ↦ elim c as (λ v. false ≡ ((v || true) && (d && false))) [
        | true ↦ elim d as (λ v. false ≡ (v && false)) [ true ↦ refl | false ↦ refl ]
        | false ↦
            elim d as (λ v. false ≡ (v && false)) [ true ↦ refl | false ↦ refl ]
      ]
      | false ↦ elim c as (λ v. false ≡ ((v || true) && (d && false))) [
        | true ↦ elim d as (λ v. false ≡ (v && false)) [ true ↦ refl | false ↦ refl ]
        | false ↦
            elim d as (λ v. false ≡ (v && false)) [ true ↦ refl | false ↦ refl ]
      ]
    ]

and-false : (a b : Bool) → (a && (b && false)) ≡ false
and-false true true = refl
and-false true false = refl
and-false false b = refl

and-none : (a : Bool) → (a && false) ≡ false
and-none true = refl
and-none false = refl

or-none : (a : Bool) → (a || false) ≡ a
or-none true = refl
or-none false = refl

abbrev has : List ℕ → List (List ℕ) → Bool
has q xs = list_any (bytes_eq q) xs

abbrev better : List (List ℕ) → List ℕ → List ℕ → Bool
better search q r = bytes_eq (module_name r) (module_name q) && is_lt (choice_cmp search r q)

-- the first of a name is chosen
first-chosen : (search : List (List ℕ)) (p q : List ℕ) (ps : List (List ℕ))
    → AllByRecursion (λ x. is_lt (full_cmp search x p) ≡ false) ps → bytes_eq q p ≡ true
    → is_chosen search (p ∷ ps) q ≡ true
first-chosen words p q ps all is =
    let mine : (bytes_eq (module_name p) (module_name p) && is_lt (choice_cmp words p p)) ≡ false
    = ap (λ b. bytes_eq (module_name p) (module_name p) && b)
    (not_below_itself (choice_total words) p)
    ∙ and-none (bytes_eq (module_name p) (module_name p)) in
    let none : list_any (better words p) (p ∷ ps) ≡ false
    = ap (λ b. b || list_any (better words p) ps) mine ∙ none-before words p ps all in
    subst (λ z. not (list_any (better words z) (p ∷ ps)) ≡ true) (sym ((bytes_eq-Decides q p).0 is))
    (ap not none)

-- a later one of the name isn't
later-not : (search : List (List ℕ)) (p q : List ℕ) (ps : List (List ℕ))
    → AllByRecursion (λ x. is_lt (full_cmp search x p) ≡ false) ps
    → bytes_eq (module_name p) (module_name q) ≡ true → bytes_eq q p ≡ false → has q ps ≡ true
    → is_chosen search (p ∷ ps) q ≡ false
later-not words p q ps all named other there =
    let after : is_lt (full_cmp words q p) ≡ false
    = all-has (λ x. is_lt (full_cmp words x p) ≡ false) q ps all there in
    let low : is_lt (choice_cmp words p q) ≡ true
    = below-from_other (choice_total words) (choice_same words) p q
    (choice-after words q p named after) (λ e. bytes_eq-other q p other (sym e)) in
    ap not (ap (λ b. (b && is_lt (choice_cmp words p q)) || list_any (better words q) ps) named
    ∙ ap (λ b. b || list_any (better words q) ps) low)

-- one of another name doesn't speak against a path
chosen-other : (search : List (List ℕ)) (p q : List ℕ) (ps : List (List ℕ))
    → bytes_eq (module_name p) (module_name q) ≡ false
    → is_chosen search (p ∷ ps) q ≡ is_chosen search ps q
chosen-other words p q ps other =
    ap (λ b. not ((b && is_lt (choice_cmp words p q)) || list_any (better words q) ps)) other

at-name : (a b c d e f : Bool) → e ≡ true → d ≡ false → (a ≡ true → c ≡ true)
    → (a ≡ false → b ≡ true → c ≡ false) → (a || (b && (f && not e))) ≡ ((a || b) && (c && not d))
at-name true b c d e f named fresh chosen later = rw (chosen refl, fresh) refl
at-name false false c d e f named fresh chosen later = refl
at-name false true c d e f named fresh chosen later = rw (later refl refl, named) (and-none f)

at-other : (a b c d e f : Bool) → e ≡ false → a ≡ false → c ≡ f → (b ≡ true → d ≡ false)
    → (a || (b && (f && not e))) ≡ ((a || b) && (c && not d))
at-other a true c d e f other out same unnamed = rw (other, out, same, unnamed refl) refl
at-other a false c d e f other out same unnamed = rw out refl

at-same : (a b c d e f : Bool) → d ≡ e → (e ≡ false → (a ≡ false) × (c ≡ f))
    → (b && (f && not e)) ≡ ((a || b) && (c && not d))
at-same a b c d true f same other = rw same (ends-false b f a c)
at-same a b c d false f same other = let o = other refl in rw (same, o.0, o.1) refl

heads-step : (search : List (List ℕ)) (prev : Option (List ℕ)) (p : List ℕ) (ps : List (List ℕ))
    → Ascends (λ x y. is_lt (full_cmp search x y)) (p ∷ ps) → NotBelow prev p → (q : List ℕ)
    → has q (heads (Some (module_name p)) ps)
    ≡ (has q ps && (is_chosen search ps q && not (bytes_eq (module_name p) (module_name q))))
    → has q (heads prev (p ∷ ps))
    ≡ (has q (p ∷ ps) && (is_chosen search (p ∷ ps) q && not (is_name prev (module_name q))))
heads-step words prev p ps up low q ih =
    let rest : List (List ℕ) = heads (Some (module_name p)) ps in
    let cut : Bool → Bool = λ b. has q (cond b rest (p ∷ rest)) in
    elim (cases_Bool (is_name prev (module_name p))) [
      | inl same ↦
          ap cut same ∙ ih
          ∙ at-same (bytes_eq q p) (has q ps) (is_chosen words (p ∷ ps) q)
          (is_name prev (module_name q)) (bytes_eq (module_name p) (module_name q))
          (is_chosen words ps q) (prev-name prev (module_name p) (module_name q) same)
          (λ other. (same-path q p other, chosen-other words p q ps other))
      | inr fresh ↦
          ap cut fresh ∙ ap (λ b. bytes_eq q p || b) ih
          ∙ (elim (cases_Bool (bytes_eq (module_name p) (module_name q))) [
            | inl named ↦ at-name (bytes_eq q p) (has q ps) (is_chosen words (p ∷ ps) q)
                (is_name prev (module_name q)) (bytes_eq (module_name p) (module_name q))
                (is_chosen words ps q) named
                (same-name prev (module_name p) (module_name q) named ∙ fresh)
                (first-chosen words p q ps up.0) (later-not words p q ps up.0 named)
            | inr other ↦ at-other (bytes_eq q p) (has q ps) (is_chosen words (p ∷ ps) q)
                (is_name prev (module_name q)) (bytes_eq (module_name p) (module_name q))
                (is_chosen words ps q) other (same-path q p other) (chosen-other words p q ps other)
                (λ there. not_name prev p q low
                (name-after words q p
                (all-has (λ x. is_lt (full_cmp words x p) ≡ false) q ps up.0 there)) other)
          ])
    ]

-- the heads have exactly those that are chosen and whose name isn't the one before
pub heads-has : (search : List (List ℕ)) (prev : Option (List ℕ)) (ps : List (List ℕ))
    → Ascends (λ x y. is_lt (full_cmp search x y)) ps → AllByRecursion (NotBelow prev) ps
    → (q : List ℕ)
    → has q (heads prev ps)
    ≡ (has q ps && (is_chosen search ps q && not (is_name prev (module_name q))))
heads-has words prev [] up low q = refl
heads-has words prev (p ∷ ps) up low q =
    heads-step words prev p ps up low.0 q
    (heads-has words (Some (module_name p)) ps up.1 (names-after words p ps up.0) q)

-- the names of the heads strictly rise, each above the one before
above-later : (m n : List ℕ) (ns : List (List ℕ)) → is_lt (by_bytes m n) ≡ true
    → list_all (λ k. is_lt (by_bytes n k)) ns ≡ true
    → list_all (λ k. is_lt (by_bytes m k)) ns ≡ true
above-later m n [] low high = refl
above-later m n (k ∷ ns) low high =
    let p = and_parts _ _ high in
    and_from _ _ (less-trans (by_bytes m n) (by_bytes n k) refl refl low p.0)
    (above-later m n ns low p.1)
  where
    less-of : (r : Ordering) → is_lt r ≡ true → r ≡ Less
    less-of Less e = refl
    less-of Equal e = absurd (true≢false (sym e))
    less-of Greater e = absurd (true≢false (sym e))

    less-trans : (r s : Ordering) → by_bytes m n ≡ r → by_bytes n k ≡ s → is_lt r ≡ true
        → is_lt s ≡ true → is_lt (by_bytes m k) ≡ true
    less-trans r s e f l h = ap is_lt (bytes_total.trans m n k (e ∙ less-of r l) (f ∙ less-of s h))

abbrev AboveName : Option (List ℕ) → List (List ℕ) → Type 0
AboveName None ns = Unit {0}
AboveName (Some m) ns = list_all (λ n. is_lt (by_bytes m n)) ns ≡ true

all-none : (ps : List (List ℕ)) → AllByRecursion (NotBelow None) ps
all-none [] = tt
all-none (p ∷ ps) = (tt, all-none ps)

heads-names-step : (prev : Option (List ℕ)) (p : List ℕ) (rest : List (List ℕ)) → NotBelow prev p
    → IsStrict by_bytes (map module_name rest)
    → list_all (λ n. is_lt (by_bytes (module_name p) n)) (map module_name rest) ≡ true → (b : Bool)
    → is_name prev (module_name p) ≡ b
    → IsStrict by_bytes (map module_name (cond b rest (p ∷ rest)))
    × AboveName prev (map module_name (cond b rest (p ∷ rest)))
heads-names-step None p rest low strict high true e = (strict, tt)
heads-names-step None p rest low strict high false e =
    (sorted-cons by_bytes (module_name p) (map module_name rest) strict high, tt)
heads-names-step (Some m) p rest low strict high true e = (
  strict,
  subst (λ n. list_all (λ k. is_lt (by_bytes n k)) (map module_name rest) ≡ true)
      (sym ((bytes_eq-Decides m (module_name p)).0 e)) high,
)
heads-names-step (Some m) p rest low strict high false e =
    let lt : is_lt (by_bytes m (module_name p)) ≡ true
    = below-from_other bytes_total bytes_same m (module_name p) low
    (bytes_eq-other m (module_name p) e) in (
      sorted-cons by_bytes (module_name p) (map module_name rest) strict high,
      and_from _ _ lt (above-later m (module_name p) (map module_name rest) lt high),
    )

pub heads-names : (search : List (List ℕ)) (prev : Option (List ℕ)) (ps : List (List ℕ))
    → Ascends (λ x y. is_lt (full_cmp search x y)) ps → AllByRecursion (NotBelow prev) ps
    → IsStrict by_bytes (map module_name (heads prev ps))
    × AboveName prev (map module_name (heads prev ps))
heads-names words None [] up low = (refl, tt)
heads-names words (Some m) [] up low = (refl, refl)
heads-names words prev (p ∷ ps) up low =
    let ih = heads-names words (Some (module_name p)) ps up.1 (names-after words p ps up.0) in
    heads-names-step prev p (heads (Some (module_name p)) ps) low.0 ih.0 ih.1
    (is_name prev (module_name p)) refl

names-all : (p : List ℕ) (ps : List (List ℕ)) → AllByRecursion (NotBelow (Some (module_name p))) ps
    → AllByRecursion (λ k. is_lt (by_bytes k (module_name p)) ≡ false) (map module_name ps)
names-all p [] all = tt
names-all p (q ∷ ps) all = (all.0, names-all p ps all.1)

-- a name that isn't below that of p, and isn't that of p, isn't the one before
not_previous : (prev : Option (List ℕ)) (p n : List ℕ) → NotBelow prev p
    → is_lt (by_bytes n (module_name p)) ≡ false → bytes_eq (module_name p) n ≡ false
    → is_name prev n ≡ false
not_previous None p n low after other = refl
not_previous (Some m) p n low after other = false_from_ne_true (bytes_eq m n) (λ is.
    let e : m ≡ n = (bytes_eq-Decides m n).0 is in
    bytes_eq-other (module_name p) n other
    (equal-from_both bytes_total bytes_same (module_name p) n
    (subst (λ k. is_lt (by_bytes (module_name p) k) ≡ false) e low) after))

swapped : (m n : List ℕ) (v : Bool) → bytes_eq m n ≡ v → bytes_eq n m ≡ v
swapped m n true e = (bytes_eq-Decides n m).1 (sym ((bytes_eq-Decides m n).0 e))
swapped m n false e =
    false_from_ne_true (bytes_eq n m)
    (λ is. bytes_eq-other m n e (sym ((bytes_eq-Decides n m).0 is)))

name-same : (a b d e : Bool) → d ≡ e → (e ≡ false → a ≡ false) → (b && not e) ≡ ((a || b) && not d)
name-same a b d true same other = rw same (and-none b ∙ sym (and-none (a || b)))
name-same a b d false same other = rw (same, other refl) refl

name-fresh : (a b d e : Bool) → (e ≡ true → (a ≡ true) × (d ≡ false)) → (e ≡ false → a ≡ false)
    → (e ≡ false → b ≡ true → d ≡ false) → (a || (b && not e)) ≡ ((a || b) && not d)
name-fresh a b d true named other unnamed = let n = named refl in rw (n.0, n.1) refl
name-fresh a true d false named other unnamed = rw (other refl, unnamed refl refl) refl
name-fresh a false d false named other unnamed = rw (other refl) refl

-- the heads have exactly the names that aren't the one before
pub names-has : (search : List (List ℕ)) (prev : Option (List ℕ)) (ps : List (List ℕ))
    → Ascends (λ x y. is_lt (full_cmp search x y)) ps → AllByRecursion (NotBelow prev) ps
    → (n : List ℕ)
    → has n (map module_name (heads prev ps)) ≡ (has n (map module_name ps) && not (is_name prev n))
names-has words prev [] up low n = refl
names-has words prev (p ∷ ps) up low n =
    let rest : List (List ℕ) = heads (Some (module_name p)) ps in
    let after = names-after words p ps up.0 in
    let ih : has n (map module_name rest)
    ≡ (has n (map module_name ps) && not (bytes_eq (module_name p) n))
    = names-has words (Some (module_name p)) ps up.1 after n in
    let cut : Bool → Bool = λ b. has n (map module_name (cond b rest (p ∷ rest))) in
    elim (cases_Bool (is_name prev (module_name p))) [
      | inl same ↦ ap cut same ∙ ih
          ∙ name-same (bytes_eq n (module_name p)) (has n (map module_name ps)) (is_name prev n)
          (bytes_eq (module_name p) n) (prev-name prev (module_name p) n same)
          (swapped (module_name p) n false)
      | inr fresh ↦
          ap cut fresh ∙ ap (λ b. bytes_eq n (module_name p) || b) ih
          ∙ name-fresh (bytes_eq n (module_name p)) (has n (map module_name ps)) (is_name prev n)
          (bytes_eq (module_name p) n)
          (λ named. (
            swapped (module_name p) n true named,
            same-name prev (module_name p) n named ∙ fresh,
          ))
          (swapped (module_name p) n false)
          (λ other there. not_previous prev p n low.0
          (all-has (λ k. is_lt (by_bytes k (module_name p)) ≡ false) n (map module_name ps)
          (names-all p ps after) there) other)
    ]

none-there : (x : List ℕ) (xs : List (List ℕ))
    → list_all (λ n. is_lt (by_bytes (module_name x) n)) (map module_name xs) ≡ true
    → count_by (bytes_eq x) xs ≡ 0
none-there x [] low = refl
none-there x (y ∷ ys) low =
    let p = and_parts _ _ low in
    let other : bytes_eq x y ≡ false
    = false_from_ne_true (bytes_eq x y)
    (λ is. true≢false
    (sym p.0
    ∙ ap (λ z. is_lt (by_bytes (module_name x) (module_name z)))
    (sym ((bytes_eq-Decides x y).0 is))
    ∙ not_below_itself bytes_total (module_name x))) in
    sum_by-cons (λ z. cond (bytes_eq x z) 1 0) y ys
    ∙ (rw other (omega (arith, none-there x ys p.1)))

once-strict : (xs : List (List ℕ)) → IsStrict by_bytes (map module_name xs) → (q : List ℕ)
    → count_by (bytes_eq q) xs ≤ 1
once-strict [] strict q = omega arith
once-strict (x ∷ xs) strict q =
    let e = sum_by-cons (λ z. cond (bytes_eq q z) 1 0) x xs in
    elim (cases_Bool (bytes_eq q x)) [
      | inl is ↦
          let none : count_by (bytes_eq q) xs ≡ 0
          = ap (λ z. count_by (bytes_eq z) xs) ((bytes_eq-Decides q x).0 is)
          ∙ none-there x xs
          (strict-low by_bytes (module_name x) (map module_name xs) strict) in
          omega (arith, e, none, ap {B = ℕ} (λ b. cond b 1 0) is)
      | inr other ↦ omega (
        arith,
        e,
        ap {B = ℕ} (λ b. cond b 1 0) other,
        once-strict xs (strict-rest by_bytes (module_name x) (map module_name xs) strict) q,
      )
    ]

pub heads-chosen : (search ms ps : List (List ℕ)) → IsPermutation ms ps
    → Ascends (λ x y. is_lt (full_cmp search x y)) ps → HasChosen search ms (heads None ps)
unfolding name_count
heads-chosen words ms ps moved up =
    let low = all-none ps in
    let names = heads-names words None ps up low in
    record {
      members = λ q.
          heads-has words None ps up low q
          ∙ ap (λ b. has q ps && b) (and-true (is_chosen words ps q))
          ∙ sym (any-filter (is_chosen words ms) q ms
          ∙ ap (λ b. b && is_chosen words ms q)
          (list_any-IsPermutation (bytes_eq q) ms ps moved)
          ∙ ap (λ b. has q ps && not b) (list_any-IsPermutation (better words q) ms ps moved));
      once = once-strict (heads None ps) names.0;
      count =
          sym (ap length (in_order-is bytes_total bytes_same (map module_name (heads None ps))
          (map module_name ms) names.0 (λ n.
          any-eq bytes_total bytes_same n (map module_name (heads None ps))
          ∙ names-has words None ps up low n
          ∙ and-true (has n (map module_name ps))
          ∙ sym (list_any-IsPermutation (bytes_eq n) (map module_name ms) (map module_name ps)
          (IsPermutation-map module_name ms ps moved))
          ∙ sym (any-eq bytes_total bytes_same n (map module_name ms))))
          ∙ length-map (heads None ps) module_name);
    }
  where
    and-true : (a : Bool) → (a && true) ≡ a
    and-true true = refl
    and-true false = refl
