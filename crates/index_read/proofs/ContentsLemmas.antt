-- An accepted file stands for the map of its nodes.
use Rattle.std.proofs.Common.{◌≡◌, refl, sym, ap, ◌∙◌, ℕ, ◌==◌, Bool, true, false, cond, List, []}
use Rattle.std.proofs.Common.{◌∷◌, ◌++◌, length, flat_map, map, Some, None, unwrap_or, ◌+◌}
use Rattle.std.proofs.Common.{append_assoc, arith}
use Rattle.std.specs.Prelude.{T}
use Rattle.std.specs.List.{AllByRecursion}
use Rattle.std.specs.FinMap.Entries.{below_all}
use Rattle.std.specs.FinMap.{entries, find, is_sorted, get-from_sorted, entries-from_sorted}
use Rattle.std.specs.Ordering.{is_eq, is_lt}
use Rattle.std.specs.declared.cmp.Ordering.TheVariants.{Less, Equal, Greater}
use Rattle.std.specs.declared.cmp.Ordering.{Ordering}
use Rattle.std.proofs.lemmas.List.{nil_from_length, append-nil, map-append}
use Rattle.std.proofs.lemmas.Bool.Decides.{nat_tests}
use Rattle.index_format.specs.Map.{Value, values_of}
use Rattle.index_format.specs.Node.{root, values}
use Rattle.index_format.specs.Walk.{at}
use Rattle.index_format.specs.Check.{index_fault}
use Rattle.index_format.specs.Holds.{Holds}
use Rattle.index_format.specs.Listing.{KeyValue}
use Rattle.index_format.proofs.TreeLemmas.{R}
use Rattle.index_read.specs.Keys.{Item, all_items}
use Rattle.index_read.specs.Contents.{entry_of, contents, values_matching}
use Rattle.index_read.proofs.OrderLemmas.{AllAfter, ItemsRise, items-rise, equal_keys, self_equal}
use Rattle.index_read.proofs.OrderLemmas.{sel, sel-none, all_weaker}
use Rattle.index_read.proofs.ListingLemmas.{sel-all}
use Rattle.glob_pattern.specs.Pattern.{Matches}
use Rattle.glob_match.specs.Decision.{is_match}
use Rattle.glob_match.proofs.MatchLemmas.{decides}
use Rattle.index_read.proofs.ListingLemmas.{Chosen, none, taken, passed, bare, pairs_of}
use Rattle.index_read.proofs.MatchLemmas.{values_in}
use Rattle.index_read.specs.Firsts.{firsts_of}
use Rattle.index_read.specs.FirstSteps.{first_of}

abbrev Entry : Type 0
Entry = List ℕ × List Value

-- ---- the entries rise

true_test : (t : Bool) → t ≡ true → T t
true_test true e = tt
true_test false e = cc

is_less : (k j : List ℕ) → R k j ≡ Less → is_lt (R k j) ≡ true
is_less k j e = ap is_lt e

abbrev Below : List ℕ → List Entry → Type 0
Below k es = AllByRecursion (λ e. is_lt (R k e.0) ≡ true) es

below_more : (b k : List ℕ) (item : Item) (es : List Entry) → R k item.0 ≡ Less → Below k es
    → Below k (entry_of b item ++ es)
below_more b k item es less h =
    elim (length (values b item.1) == 0) as
    (λ t. Below k (cond t [] ((item.0, values b item.1) ∷ []) ++ es)) [
      | true ↦ h
      | false ↦ (is_less k item.0 less, h)
    ]

entries-below : (b k : List ℕ) (is : List Item) → AllAfter k is → Below k (flat_map (entry_of b) is)
entries-below b k [] h = tt
entries-below b k (item ∷ is) h =
    below_more b k item (flat_map (entry_of b) is) h.0 (entries-below b k is h.1)

below_test : (k : List ℕ) (es : List Entry) → Below k es → below_all R k es ≡ true
below_test k [] h = refl
below_test k (e ∷ es) h = rw (h.0) (below_test k es h.1)

sorted_more : (b : List ℕ) (item : Item) (es : List Entry) → Below item.0 es → is_sorted R es ≡ true
    → is_sorted R (entry_of b item ++ es) ≡ true
sorted_more b item es h up =
    elim (length (values b item.1) == 0) as
    (λ t. is_sorted R (cond t [] ((item.0, values b item.1) ∷ []) ++ es) ≡ true) [
      | true ↦ up
      | false ↦ rw (below_test item.0 es h) up
    ]

entries-rise : (b : List ℕ) (is : List Item) → ItemsRise is
    → is_sorted R (flat_map (entry_of b) is) ≡ true
entries-rise b [] h = refl
entries-rise b (item ∷ is) h =
    sorted_more b item (flat_map (entry_of b) is) (entries-below b item.0 is h.0)
    (entries-rise b is h.1)

all_rise : (b : List ℕ) → T (is_sorted R (flat_map (entry_of b) (all_items b)))
all_rise b = true_test _ (entries-rise b (all_items b) (items-rise b (length b + 1) (root b) []))

-- ---- the values of a key

no_length : (vs : List Value) → (length vs == 0) ≡ true → vs ≡ []
no_length vs e = nil_from_length vs (grind (arith, nat_tests))

found_more : (b q : List ℕ) (item : Item) (es : List Entry) (vs : List Value)
    → unwrap_or (find R q es) [] ≡ vs → (is_eq (R q item.0) ≡ true → vs ≡ [])
    → unwrap_or (find R q (entry_of b item ++ es)) []
    ≡ cond (is_eq (R q item.0)) (values b item.1) [] ++ vs
found_more b q item es vs rest alone =
    elim (length (values b item.1) == 0) as
    (λ t. (length (values b item.1) == 0) ≡ t
    → unwrap_or (find R q (cond t [] ((item.0, values b item.1) ∷ []) ++ es)) []
    ≡ cond (is_eq (R q item.0)) (values b item.1) [] ++ vs) [
      | true ↦ λ e. rw (no_length (values b item.1) e)
          (rest ∙ sym (no_values (is_eq (R q item.0)) vs))
      | false ↦ λ _. elim (is_eq (R q item.0)) as
          (λ t. is_eq (R q item.0) ≡ t
          → unwrap_or (cond t (Some (values b item.1)) (find R q es)) []
          ≡ cond t (values b item.1) [] ++ vs) [
            | true ↦ λ e. rw (alone e) (sym (append-nil (values b item.1)))
            | false ↦ λ _. rest
          ] refl
    ] refl
  where
    no_values : (t : Bool) (vs : List Value) → cond t [] [] ++ vs ≡ vs
    no_values true vs = refl
    no_values false vs = refl

later_keys : (q k : List ℕ) (is : List Item) → is_eq (R q k) ≡ true → AllAfter k is
    → AllByRecursion (λ (item : Item). q ≡ item.0 → ⊥) is
later_keys q k is e h =
    all_weaker (λ (item : Item). R k item.0 ≡ Less) (λ (item : Item). q ≡ item.0 → ⊥)
    (λ item less same. not_equal (R k item.0) less
    (rw (← same, ← equal_keys q k e) (self_equal q))) is h
  where
    not_equal : (o : Ordering) → o ≡ Less → is_eq o ≡ true → ⊥
    not_equal Less e h = cc
    not_equal Equal e h = cc
    not_equal Greater e h = cc

found-sel : (b q : List ℕ) (is : List Item) → ItemsRise is
    → unwrap_or (find R q (flat_map (entry_of b) is)) [] ≡ sel b q is
unfolding sel
found-sel b q [] up = refl
found-sel b q (item ∷ is) up =
    found_more b q item (flat_map (entry_of b) is) (sel b q is) (found-sel b q is up.1)
    (λ e. sel-none b q is (later_keys q item.0 is e up.0))

pub values_held : (b : List ℕ) → index_fault b ≡ None → (q : List ℕ)
    → at b (root b) q ≡ values_of (contents b) q
unfolding contents
values_held b accepted q =
    sym (sel-all b accepted q)
    ∙ sym (found-sel b q (all_items b) (items-rise b (length b + 1) (root b) []))
    ∙ ap (λ o. unwrap_or o [])
    (sym (get-from_sorted R (flat_map (entry_of b) (all_items b)) q (all_rise b)))

pub held : (b : List ℕ) → index_fault b ≡ None → Holds b (contents b)
held b accepted = record { accepted = accepted; values = values_held b accepted }

-- ---- the values of all keys that match

matching-append : (text : List ℕ) (es fs : List Entry)
    → values_matching (es ++ fs) text ≡ values_matching es text ++ values_matching fs text
matching-append text [] fs = refl
matching-append text (e ∷ es) fs =
    ap (λ vs. cond (is_match e.0 text) e.1 [] ++ vs) (matching-append text es fs)
    ∙ sym (append_assoc (cond (is_match e.0 text) e.1 []) (values_matching es text)
    (values_matching fs text))

matching_one : (b text : List ℕ) (item : Item)
    → values_matching (entry_of b item) text ≡ cond (is_match item.0 text) (values b item.1) []
matching_one b text item =
    elim (length (values b item.1) == 0) as
    (λ t. (length (values b item.1) == 0) ≡ t
    → values_matching (cond t [] ((item.0, values b item.1) ∷ [])) text
    ≡ cond (is_match item.0 text) (values b item.1) []) [
      | true ↦ λ e. rw (no_length (values b item.1) e) (no_values (is_match item.0 text))
      | false ↦ λ _. append-nil (cond (is_match item.0 text) (values b item.1) [])
    ] refl
  where
    no_values : (t : Bool) → ◌≡◌ {A = List Value} [] (cond t [] [])
    no_values true = refl
    no_values false = refl

matching_more : (b text : List ℕ) (item : Item) (es : List Entry)
    → values_matching (entry_of b item ++ es) text
    ≡ cond (is_match item.0 text) (values b item.1) [] ++ values_matching es text
matching_more b text item es =
    matching-append text (entry_of b item) es
    ∙ ap (λ vs. vs ++ values_matching es text) (matching_one b text item)

values_back : (key : List ℕ) (vs : List Value) → values_in (map (λ v. (key, v)) vs) ≡ vs
values_back key [] = refl
values_back key (v ∷ vs) = ap (λ us. v ∷ us) (values_back key vs)

no_match : (key text : List ℕ) → ¬ Matches key text → is_match key text ≡ false
no_match key text h =
    elim (is_match key text) as (λ t. is_match key text ≡ t → t ≡ false) [
      | true ↦ λ e. absurd (h ((decides key text).0 e))
      | false ↦ λ _. refl
    ] refl

chosen-matching : (b text : List ℕ) (is : List Item) (ps : List KeyValue)
    → Chosen b (λ key. Matches key text) is ps
    → values_in ps ≡ values_matching (flat_map (entry_of b) is) text
chosen-matching b text _ _ none = refl
chosen-matching b text _ _ (taken {is = is} {ps = ps} item m c) =
    map-append (λ (p : KeyValue). p.1) (pairs_of b item) ps
    ∙ (λ i. values_back item.0 (values b item.1) i ++ chosen-matching b text is ps c i)
    ∙ ap (λ t. cond t (values b item.1) [] ++ values_matching (flat_map (entry_of b) is) text)
    (sym ((decides item.0 text).1 m))
    ∙ sym (matching_more b text item (flat_map (entry_of b) is))
chosen-matching b text _ _ (passed {is = is} {ps = ps} item m c) =
    chosen-matching b text is ps c
    ∙ ap (λ t. cond t (values b item.1) [] ++ values_matching (flat_map (entry_of b) is) text)
    (sym (no_match item.0 text m))
    ∙ sym (matching_more b text item (flat_map (entry_of b) is))
chosen-matching b text _ _ (bare {is = is} {ps = ps} item e c) =
    chosen-matching b text is ps c
    ∙ ap (λ vs. vs ++ values_matching (flat_map (entry_of b) is) text)
    (no_values (is_match item.0 text))
    ∙ ap
    (λ vs. cond (is_match item.0 text) vs [] ++ values_matching (flat_map (entry_of b) is) text)
    (sym e)
    ∙ sym (matching_more b text item (flat_map (entry_of b) is))
  where
    no_values : (t : Bool) → ◌≡◌ {A = List Value} [] (cond t [] [])
    no_values true = refl
    no_values false = refl

pub all_matching : (b text : List ℕ) (ps : List KeyValue)
    → Chosen b (λ key. Matches key text) (all_items b) ps
    → values_in ps ≡ values_matching (entries (contents b)) text
unfolding contents
all_matching b text ps c =
    chosen-matching b text (all_items b) ps c
    ∙ ap (λ es. values_matching es text)
    (sym (entries-from_sorted R (flat_map (entry_of b) (all_items b)) (all_rise b)))

-- ---- the first values of all keys

firsts_more : (b : List ℕ) (item : Item) (es : List Entry)
    → firsts_of (entry_of b item ++ es) ≡ first_of b item ++ firsts_of es
firsts_more b item es =
    elim (length (values b item.1) == 0) as
    (λ t. (length (values b item.1) == 0) ≡ t
    → firsts_of (cond t [] ((item.0, values b item.1) ∷ []) ++ es)
    ≡ first_of b item ++ firsts_of es) [
      | true ↦ λ e. rw (no_length (values b item.1) e) refl
      | false ↦ λ _. refl
    ] refl

firsts-items : (b : List ℕ) (is : List Item)
    → flat_map (first_of b) is ≡ firsts_of (flat_map (entry_of b) is)
firsts-items b [] = refl
firsts-items b (item ∷ is) =
    ap (λ ps. first_of b item ++ ps) (firsts-items b is)
    ∙ sym (firsts_more b item (flat_map (entry_of b) is))

pub all_firsts : (b : List ℕ)
    → flat_map (first_of b) (all_items b) ≡ firsts_of (entries (contents b))
unfolding contents
all_firsts b =
    firsts-items b (all_items b)
    ∙ ap firsts_of (sym (entries-from_sorted R (flat_map (entry_of b) (all_items b)) (all_rise b)))
