-- What the parts of a pattern take of a text, with one part more at their end.
use Rattle.std.proofs.Common.{◌≡◌, ◌↔◌, refl, sym, ap, subst, ◌∙◌, ⊎_elim, ℕ, zero, suc, ◌<◌, ◌≤◌}
use Rattle.std.proofs.Common.{Bool, true, false, ◌&&◌, ◌||◌, ◌==◌, nat_le, List, [], ◌∷◌, ◌++◌}
use Rattle.std.proofs.Common.{length, take, drop, slice_index, Option, Some, None, arith}
use Rattle.std.proofs.Common.{length-append}
use Rattle.std.specs.Option.{option_map, option_map_or}
use Rattle.std.proofs.lemmas.Bool.{and_parts, and_from, and_right, or_left, or_right, or_cases}
use Rattle.std.proofs.lemmas.Bool.{cases_lt, le-leb, lt-leb, false≢true}
use Rattle.std.proofs.Math.Seq.{take-suc}
use Rattle.std.proofs.lemmas.List.{take_all, take-append-drop}
use Rattle.glob_pattern.specs.Parts.{Part, parts_take, some_end}
use Rattle.glob_pattern.specs.Parts.Part.{Many, One}
use Rattle.glob_match.specs.Progress.{reaches}
use Rattle.glob_match.specs.Ends.{take_end}
use Rattle.glob_pattern.proofs.DecisionLemmas.{not_same}
use Rattle.glob_match.specs.Words.{moved, any_up_to}

-- ---- one more part of one byte

no_byte : (test : ℕ → Bool) (ps : List Part) → parts_take (ps ++ One test ∷ []) [] ≡ false
no_byte test [] = refl
no_byte test (Many ∷ ps) = no_byte test ps
no_byte test (One t ∷ ps) = refl

end_with_byte : (f g : List ℕ → Bool) (b : Bool) (c : ℕ) → f [] ≡ false
    → ((zs : List ℕ) → f (zs ++ c ∷ []) ≡ (g zs && b)) → (xs : List ℕ)
    → some_end f (xs ++ c ∷ []) ≡ (some_end g xs && b)
end_with_byte f g b c none each [] =
    (λ i. each [] i || none i) ∙ only (g [] && b)
  where
    only : (t : Bool) → (t || false) ≡ t
    only true = refl
    only false = refl
end_with_byte f g b c none each (x ∷ xs) =
    (λ i. each (x ∷ xs) i || end_with_byte f g b c none each xs i)
    ∙ split (g (x ∷ xs)) (some_end g xs) b
  where
    split : (s t b : Bool) → ((s && b) || (t && b)) ≡ ((s || t) && b)
    split true true true = refl
    split true true false = refl
    split true false true = refl
    split true false false = refl
    split false t b = refl

with_byte : (test : ℕ → Bool) (ps : List Part) (xs : List ℕ) (c : ℕ)
    → parts_take (ps ++ One test ∷ []) (xs ++ c ∷ []) ≡ (parts_take ps xs && test c)
with_byte test [] [] c = only (test c)
  where
    only : (t : Bool) → (t && true) ≡ t
    only true = refl
    only false = refl
with_byte test [] (x ∷ xs) c =
    and_right (test x) (length (xs ++ c ∷ []) == 0)
    (not_same (length (xs ++ c ∷ [])) 0 (λ e. omega (arith, e, length-append xs (c ∷ []))))
    ∙ ap (λ t. t && test c) (sym (not_same (length (x ∷ xs)) 0 (λ e. omega (arith, e))))
with_byte test (Many ∷ ps) xs c =
    end_with_byte (parts_take (ps ++ One test ∷ [])) (parts_take ps) (test c) c (no_byte test ps)
    (λ zs. with_byte test ps zs c) xs
with_byte test (One t ∷ ps) [] c = and_right (t c) _ (no_byte test ps)
with_byte test (One t ∷ ps) (x ∷ xs) c =
    ap (λ b. t x && b) (with_byte test ps xs c) ∙ grouped (t x) (parts_take ps xs) (test c)
  where
    grouped : (a b c : Bool) → (a && (b && c)) ≡ ((a && b) && c)
    grouped true b c = refl
    grouped false b c = refl

-- ---- one more part of any bytes

run_alone : (ps : List Part) → parts_take (ps ++ Many ∷ []) [] ≡ parts_take ps []
run_alone [] = refl
run_alone (Many ∷ ps) = run_alone ps
run_alone (One t ∷ ps) = refl

all_ends : (xs : List ℕ) → some_end (parts_take []) xs ≡ true
all_ends [] = refl
all_ends (x ∷ xs) = or_right (parts_take [] (x ∷ xs)) _ (all_ends xs)

end_with_run : (f g : List ℕ → Bool) (c : ℕ) → f [] ≡ g []
    → ((zs : List ℕ) → f (zs ++ c ∷ []) ≡ (f zs || g (zs ++ c ∷ []))) → (xs : List ℕ)
    → some_end f (xs ++ c ∷ []) ≡ (some_end f xs || some_end g (xs ++ c ∷ []))
end_with_run f g c same each [] =
    (λ i. each [] i || f []) ∙ twice (f []) (g (c ∷ [])) ∙ ap (λ t. f [] || (g (c ∷ []) || t)) same
  where
    twice : (s t : Bool) → ((s || t) || s) ≡ (s || (t || s))
    twice true t = refl
    twice false t = refl
end_with_run f g c same each (x ∷ xs) =
    (λ i. each (x ∷ xs) i || end_with_run f g c same each xs i)
    ∙ swap (f (x ∷ xs)) (g (x ∷ xs ++ c ∷ [])) (some_end f xs) (some_end g (xs ++ c ∷ []))
  where
    swap : (a b c d : Bool) → ((a || b) || (c || d)) ≡ ((a || c) || (b || d))
    swap true b c d = refl
    swap false true true d = refl
    swap false true false d = refl
    swap false false c d = refl

with_run : (ps : List Part) (xs : List ℕ) (c : ℕ)
    → parts_take (ps ++ Many ∷ []) (xs ++ c ∷ [])
    ≡ (parts_take (ps ++ Many ∷ []) xs || parts_take ps (xs ++ c ∷ []))
with_run [] xs c =
    all_ends (xs ++ c ∷ []) ∙ sym (or_left (some_end (parts_take []) xs) _ (all_ends xs))
with_run (Many ∷ ps) xs c =
    end_with_run (parts_take (ps ++ Many ∷ [])) (parts_take ps) c (run_alone ps)
    (λ zs. with_run ps zs c) xs
with_run (One t ∷ ps) [] c = ap (λ b. t c && b) (run_alone ps)
with_run (One t ∷ ps) (x ∷ xs) c =
    ap (λ b. t x && b) (with_run ps xs c)
    ∙ shared (t x) (parts_take (ps ++ Many ∷ []) xs) (parts_take ps (xs ++ c ∷ []))
  where
    shared : (a b c : Bool) → (a && (b || c)) ≡ ((a && b) || (a && c))
    shared true b c = refl
    shared false b c = refl

-- ---- the places that parts reach

below_end : (n : ℕ) (text : List ℕ) → n ≤ length text → nat_le n (length text) ≡ true
below_end n text le = le-leb n (length text) le

past_end : (n : ℕ) (text : List ℕ) → length text < n → nat_le n (length text) ≡ false
past_end n text lt = lt-leb n (length text) lt

-- A part of one byte more.
pub reaches-one : (test : ℕ → Bool) (ps : List Part) (text : List ℕ) (n : ℕ)
    → reaches (ps ++ One test ∷ []) text n
    ≡ (nat_le n (length text) && moved (reaches ps text) (λ m. test (slice_index text m)) n)
reaches-one test ps text zero = ap (λ t. nat_le 0 (length text) && t) (no_byte test ps)
reaches-one test ps text (suc n) =
    ⊎_elim
    (λ lt.
    let here = below_end n text (omega (arith, lt)) in
    ap (λ xs. nat_le (suc n) (length text) && parts_take (ps ++ One test ∷ []) xs)
    (take-suc text n 0 lt)
    ∙ ap (λ t. nat_le (suc n) (length text) && t)
    (with_byte test ps (take n text) (slice_index text n))
    ∙ ap (λ t. nat_le (suc n) (length text)
    && ((t && parts_take ps (take n text)) && test (slice_index text n))) (sym here))
    (λ ge.
    let out = past_end (suc n) text (omega (arith, ge)) in
    ap (λ t. t && parts_take (ps ++ One test ∷ []) (take (suc n) text)) out
    ∙ ap (λ t. t && moved (reaches ps text) (λ m. test (slice_index text m)) (suc n)) (sym out))
    (cases_lt n (length text))

-- A part of any bytes more.
pub reaches-run : (ps : List Part) (text : List ℕ) (n : ℕ)
    → reaches (ps ++ Many ∷ []) text n ≡ (nat_le n (length text) && any_up_to (reaches ps text) n)
reaches-run ps text zero =
    let here = below_end 0 text (omega arith) in
    ap (λ t. nat_le 0 (length text) && t) (run_alone ps)
    ∙ ap (λ t. nat_le 0 (length text) && (t && parts_take ps [])) (sym here)
reaches-run ps text (suc n) =
    ⊎_elim
    (λ lt.
    let next = below_end (suc n) text lt in
    let here = below_end n text (omega (arith, lt)) in
    let both : parts_take (ps ++ Many ∷ []) (take (suc n) text)
    ≡ (parts_take (ps ++ Many ∷ []) (take n text) || parts_take ps (take (suc n) text))
    =
    ap (parts_take (ps ++ Many ∷ [])) (take-suc text n 0 lt)
    ∙ with_run ps (take n text) (slice_index text n)
    ∙ ap (λ xs. parts_take (ps ++ Many ∷ []) (take n text) || parts_take ps xs)
    (sym (take-suc text n 0 lt)) in
    let before : parts_take (ps ++ Many ∷ []) (take n text) ≡ any_up_to (reaches ps text) n =
    ap (λ t. t && parts_take (ps ++ Many ∷ []) (take n text)) (sym here) ∙ reaches-run ps text n
    ∙ ap (λ t. t && any_up_to (reaches ps text) n) here in
    ap (λ t. nat_le (suc n) (length text) && t) both
    ∙ (λ i. nat_le (suc n) (length text)
    && (before i || (sym next i && parts_take ps (take (suc n) text)))))
    (λ ge.
    let out = past_end (suc n) text (omega (arith, ge)) in
    ap (λ t. t && parts_take (ps ++ Many ∷ []) (take (suc n) text)) out
    ∙ ap (λ t. t && any_up_to (reaches ps text) (suc n)) (sym out))
    (cases_lt n (length text))

-- The places after a `*` go on to the end.
goes_on : (ps : List Part) (text : List ℕ) (n : ℕ) → suc n ≤ length text
    → reaches (ps ++ Many ∷ []) text n ≡ true → reaches (ps ++ Many ∷ []) text (suc n) ≡ true
goes_on ps text n le e =
    let here = and_parts (nat_le n (length text)) _ (sym (reaches-run ps text n) ∙ e) in
    reaches-run ps text (suc n)
    ∙ and_from _ _ (below_end (suc n) text le)
    (or_left (any_up_to (reaches ps text) n) _ here.1)

up_to_same : (ps : List Part) (text : List ℕ) (n : ℕ) → n ≤ length text
    → any_up_to (reaches (ps ++ Many ∷ []) text) n ≡ reaches (ps ++ Many ∷ []) text n
up_to_same ps text zero le = refl
up_to_same ps text (suc n) le =
    ap (λ t. t || reaches (ps ++ Many ∷ []) text (suc n)) (up_to_same ps text n (omega (arith, le)))
    ∙ absorbed (reaches (ps ++ Many ∷ []) text n) (reaches (ps ++ Many ∷ []) text (suc n))
    (goes_on ps text n le)
  where
    absorbed : (a b : Bool) → (a ≡ true → b ≡ true) → (a || b) ≡ b
    absorbed true b h = sym (h refl)
    absorbed false b h = refl

-- A second part of any bytes changes nothing.
pub reaches-twice : (ps : List Part) (text : List ℕ) (n : ℕ)
    → reaches ((ps ++ Many ∷ []) ++ Many ∷ []) text n ≡ reaches (ps ++ Many ∷ []) text n
reaches-twice ps text n =
    ⊎_elim
    (λ past.
    let out = past_end n text past in
    ap (λ t. t && parts_take ((ps ++ Many ∷ []) ++ Many ∷ []) (take n text)) out
    ∙ ap (λ t. t && parts_take (ps ++ Many ∷ []) (take n text)) (sym out))
    (λ within.
    reaches-run (ps ++ Many ∷ []) text n
    ∙ ap (λ t. t && any_up_to (reaches (ps ++ Many ∷ []) text) n) (below_end n text within)
    ∙ up_to_same ps text n within)
    (cases_lt (length text) n)

-- All of the text.
pub reaches-end : (ps : List Part) (text : List ℕ)
    → reaches ps text (length text) ≡ parts_take ps text
reaches-end ps text =
    ap (λ t. t && parts_take ps (take (length text) text))
    (below_end (length text) text (omega arith))
    ∙ ap (parts_take ps) (take_all (length text) text (omega arith))

-- ---- parts that reach no place

pub end_here : (f : List ℕ → Bool) (xs : List ℕ) → f xs ≡ true → some_end f xs ≡ true
end_here f [] e = e
end_here f (x ∷ xs) e = or_left (f (x ∷ xs)) (some_end f xs) e

-- A front that the first parts take, and a rest that the parts after them take.
record Splits (first after : List ℕ → Bool) (xs : List ℕ) : Type 0 where
  count : ℕ
  within : count ≤ length xs
  front : first (take count xs) ≡ true
  rest : after (drop count xs) ≡ true

split_end : (f g after : List ℕ → Bool) → ((xs : List ℕ) → f xs ≡ true → Splits g after xs)
    → (xs : List ℕ) → some_end f xs ≡ true → Splits (some_end g) after xs
split_end f g after each [] e =
    let h
    = each [] e in record {
      count = h.count;
      within = h.within;
      front = end_here g (take h.count []) h.front;
      rest = h.rest;
    }
split_end f g after each (x ∷ xs) e =
    ⊎_elim
    (λ here. let h
    = each (x ∷ xs) here in record {
      count = h.count;
      within = h.within;
      front = end_here g (take h.count (x ∷ xs)) h.front;
      rest = h.rest;
    })
    (λ later.
    let h = split_end f g after each xs later in
    record {
      count = suc h.count;
      within = omega (arith, h.within);
      front = or_right (g (x ∷ take h.count xs)) (some_end g (take h.count xs)) h.front;
      rest = h.rest;
    })
    (or_cases (f (x ∷ xs)) (some_end f xs) e)

split_parts : (ps qs : List Part) (xs : List ℕ) → parts_take (ps ++ qs) xs ≡ true
    → Splits (parts_take ps) (parts_take qs) xs
split_parts [] qs xs e = record { count = 0; within = omega arith; front = refl; rest = e }
split_parts (Many ∷ ps) qs xs e =
    split_end (parts_take (ps ++ qs)) (parts_take ps) (parts_take qs) (split_parts ps qs) xs e
split_parts (One t ∷ ps) qs [] e = absurd (false≢true e)
split_parts (One t ∷ ps) qs (x ∷ xs) e =
    let both = and_parts (t x) _ e in
    let h = split_parts ps qs xs both.1 in
    record {
      count = suc h.count;
      within = omega (arith, h.within);
      front = and_from (t x) _ both.0 h.front;
      rest = h.rest;
    }

-- Parts that reach no place take no text, whatever follows them.
pub reaches-none : (ps qs : List Part) (text : List ℕ)
    → ((n : ℕ) → n ≤ length text → reaches ps text n ≡ false) → parts_take (ps ++ qs) text ≡ true
    → ⊥
reaches-none ps qs text none e =
    let h = split_parts ps qs text e in
    false≢true (sym (none h.count h.within)
    ∙ and_from (nat_le h.count (length text)) _ (below_end h.count text h.within) h.front)

-- ---- parts, and what follows them

join_end : (f g : List ℕ → Bool) (ys : List ℕ) → ((xs : List ℕ) → f xs ≡ true → g (xs ++ ys) ≡ true)
    → (xs : List ℕ) → some_end f xs ≡ true → some_end g (xs ++ ys) ≡ true
join_end f g ys each [] e = end_here g ys (each [] e)
join_end f g ys each (x ∷ xs) e =
    ⊎_elim
    (λ here. end_here g (x ∷ xs ++ ys) (each (x ∷ xs) here))
    (λ later. or_right (g (x ∷ xs ++ ys)) (some_end g (xs ++ ys)) (join_end f g ys each xs later))
    (or_cases (f (x ∷ xs)) (some_end f xs) e)

join_parts : (ps qs : List Part) (xs ys : List ℕ) → parts_take ps xs ≡ true
    → parts_take qs ys ≡ true → parts_take (ps ++ qs) (xs ++ ys) ≡ true
join_parts [] qs [] ys e h = h
join_parts [] qs (x ∷ xs) ys e h =
    absurd (false≢true (sym (not_same (length (x ∷ xs)) 0 (λ f. omega (arith, f))) ∙ e))
join_parts (Many ∷ ps) qs xs ys e h =
    join_end (parts_take ps) (parts_take (ps ++ qs)) ys (λ zs f. join_parts ps qs zs ys f h) xs e
join_parts (One t ∷ ps) qs [] ys e h = absurd (false≢true e)
join_parts (One t ∷ ps) qs (x ∷ xs) ys e h =
    let both = and_parts (t x) _ e in
    and_from (t x) _ both.0 (join_parts ps qs xs ys both.1 h)

-- Parts that take a text after others do so from a place on that these reach.
pub taken_after : (ps : List Part) (more : Option (List Part)) (text : List ℕ)
    → (option_map_or (λ qs. parts_take qs text) (option_map (λ qs. ps ++ qs) more) false ≡ true)
    ↔ ((n : ℕ) × (reaches ps text n ≡ true) × (take_end more text n ≡ true))
taken_after ps None text = (
  λ e. absurd (false≢true e),
  λ m. absurd (false≢true (and_parts (nat_le m.0 (length text)) false m.2).1),
)
taken_after ps (Some qs) text = (
  λ e.
      let h = split_parts ps qs text e in
      let there = below_end h.count text h.within in (
        h.count,
        and_from (nat_le h.count (length text)) _ there h.front,
        and_from (nat_le h.count (length text)) _ there h.rest,
      ),
  λ m.
      let n = m.0 in
      let front = and_parts (nat_le n (length text)) (parts_take ps (take n text)) m.1 in
      let rest = and_parts (nat_le n (length text)) (parts_take qs (drop n text)) m.2 in
      subst (λ xs. parts_take (ps ++ qs) xs ≡ true) (take-append-drop n text)
      (join_parts ps qs (take n text) (drop n text) front.1 rest.1),
)
