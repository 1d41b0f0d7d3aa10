-- From which places values are whole.
use Rattle.std.proofs.Common.{◌≡◌, ◌≢◌, refl, sym, ap, subst, ◌∙◌, ⊎_elim, ℕ, zero, suc, ◌+◌, ◌-◌}
use Rattle.std.proofs.Common.{◌<◌, ◌≤◌, Bool, true, false, List, [], ◌∷◌, ◌++◌, length, drop}
use Rattle.std.proofs.Common.{get_or, vec_len, arith}
use Rattle.std.proofs.lemmas.Bool.{le-leb, eqb-true, cases_lt, true≢false, and_from}
use Rattle.std.proofs.lemmas.List.{get_or-drop, get_or_append_left, length-drop, length-append}
use Rattle.std.proofs.lemmas.List.{drop-drop}
use Rattle.std.proofs.Math.Seq.{get_or-append_seam}
use Rattle.std.proofs.lemmas.List.Sums.{fails_before_first, passes_at_first}
use Rattle.index_format.specs.Node.{is_nul, text}
use Rattle.index_format.specs.Check.{has_nul, whole_values}
use Rattle.index_nodes.specs.declared.value_starts.ValueStarts.{ValueStarts}
use Rattle.index_nodes.specs.ValueStarts.{IsLastStart, AreValueStarts}
use Rattle.index_nodes.proofs.FieldLemmas.{text_len, length-text, nul_there}
use Rattle.index_nodes.proofs.ReadLemmas.{after_value, whole_value}

-- from every place of a file up to its end no values are whole
pub no_values_start : (b : List ℕ) → IsLastStart b 0 (length b)
unfolding whole_values
no_values_start b = record {
  within = omega arith;
  whole = λ place low. refl;
  cut = λ place within high. absurd (omega (arith, within, high));
}

-- a NUL ends a text that begins before it
text_before : (b : List ℕ) (start nul : ℕ) → start ≤ nul → nul < length b → get_or b nul 0 ≡ 0
    → start + length (text (drop start b)) ≤ nul
text_before b start nul low high is =
    let here : start + (nul - start) ≡ nul = omega (arith, low) in
    ⊎_elim
    (λ longer. absurd
    (true≢false (sym (eq-zero
    (get_or-drop start b (nul - start) 0 ∙ ap (λ k. get_or b k 0) here ∙ is))
    ∙ fails_before_first is_nul (drop start b) (nul - start) 0 longer)))
    (λ shorter. omega (arith, shorter, length-text (drop start b), low))
    (cases_lt (nul - start) (text_len (drop start b)))
  where
    eq-zero : {n : ℕ} → n ≡ 0 → is_nul n ≡ true
    eq-zero {n = n} e = ap is_nul e

-- one value more is whole where its text may end before the last start
pub whole_before : (b : List ℕ) (count limit start place : ℕ) → IsLastStart b count limit
    → start + 4 < limit → get_or b (start + 4) 0 ≡ 0 → place ≤ start
    → whole_values (suc count) (drop place b) ≡ true
unfolding whole_values
whole_before b count limit start place h room nul low =
    let from = drop (place + 4) b in
    let ends
    = text_before b (place + 4) (start + 4) (omega (arith, low)) (omega (arith, room, h.within))
    nul in
    let shorter : length (text from) < length from
    = omega (arith, ends, length-drop (place + 4) b, room, h.within) in
    and_from _ _
    (le-leb 4 (length (drop place b)) (omega (arith, length-drop place b, room, h.within, low)))
    (and_from _ _ (ap has_nul (drop-drop 4 place b) ∙ nul_there from shorter)
    (ap (whole_values count) (after_value b place)
    ∙ h.whole (place + 4 + length (text from) + 1) (omega (arith, ends, room))))

-- and isn't where there is no NUL for it
pub cut_after : (b : List ℕ) (count limit place : ℕ) → IsLastStart b count limit
    → ((k : ℕ) → place + 4 ≤ k → k < limit → get_or b k 0 ≢ 0) → place ≤ length b
    → whole_values (suc count) (drop place b) ≡ false
cut_after b count limit place h clear within =
    by_case (whole_values (suc count) (drop place b)) refl
  where
    by_case : (t : Bool) → whole_values (suc count) (drop place b) ≡ t → t ≡ false
    by_case false e = refl
    by_case true e =
        let w = whole_value b place count e in
        let from = drop (place + 4) b in
        let size = length-text from in
        let nul = place + 4 + length (text from) in
        let shorter : text_len from < length from
        = omega (arith, w.text_in, size, length-drop (place + 4) b) in
        let at_end : get_or from (text_len from) 0 ≡ 0
        = eqb-true (get_or from (text_len from) 0) 0 (passes_at_first is_nul from 0 shorter) in
        let is : get_or b nul 0 ≡ 0
        = ap (λ n. get_or b (place + 4 + n) 0) size
        ∙ sym (get_or-drop (place + 4) b (text_len from) 0) ∙ at_end in
        absurd (⊎_elim
        (λ before. clear nul (omega arith) before is)
        (λ after. true≢false (sym w.rest ∙ h.cut (nul + 1) w.text_in (omega (arith, after))))
        (cases_lt nul limit))

-- the last start of one value more
pub next_start : (b : List ℕ) (count limit start : ℕ) → IsLastStart b count limit
    → start + 4 < limit → get_or b (start + 4) 0 ≡ 0
    → ((k : ℕ) → start + 4 < k → k < limit → get_or b k 0 ≢ 0) → IsLastStart b (suc count) start
next_start b count limit start h room nul clear = record {
  within = omega (arith, room, h.within);
  whole = λ place low. whole_before b count limit start place h room nul low;
  cut
      = λ place within high. cut_after b count limit place h
      (λ k from to. clear k (omega (arith, from, high)) to) within;
}

-- where no value is whole in front of so many, no greater number is whole
pub none_whole : (b : List ℕ) (count more : ℕ)
    → ((place : ℕ) → place ≤ length b → whole_values count (drop place b) ≡ false) → (place : ℕ)
    → place ≤ length b → whole_values (more + count) (drop place b) ≡ false
none_whole b count zero h place within =
    ap (λ n. whole_values n (drop place b)) (omega arith) ∙ h place within
none_whole b count (suc more) h place within =
    by_case (whole_values (suc (more + count)) (drop place b))
    (λ later inside. none_whole b count more h later inside) refl
  where
    by_case : (t : Bool)
        → ((later : ℕ) → later ≤ length b → whole_values (more + count) (drop later b) ≡ false)
        → whole_values (suc (more + count)) (drop place b) ≡ t
        → whole_values (suc more + count) (drop place b) ≡ false
    by_case false less e = ap (λ n. whole_values n (drop place b)) (omega arith) ∙ e
    by_case true less e =
        let w = whole_value b place (more + count) e in
        absurd (true≢false
        (sym w.rest ∙ less (place + 4 + length (text (drop (place + 4) b)) + 1) w.text_in))

-- ---- the places that are known

pub starts_first : (b : List ℕ) (s : ValueStarts) (none : List ℕ) → none ≡ []
    → s.last.items ≡ none ++ length b ∷ [] → AreValueStarts b s
starts_first b s none empty is =
    let all : s.last.items ≡ length b ∷ [] = is ∙ ap (λ xs. xs ++ length b ∷ []) empty in
    let size : vec_len s.last ≡ 1 = s.last.ok.0 ∙ ap length all in
    record {
      some = omega (arith, size);
      each = λ count low.
          let zero_is : count ≡ 0 = omega (arith, low, size) in
          subst (λ n. IsLastStart b n (get_or s.last.items n 0)) (sym zero_is)
          (subst (λ xs. IsLastStart b 0 (get_or xs 0 0)) (sym all) (no_values_start b));
    }

pub starts_next : (b : List ℕ) (old new : ValueStarts) (next : ℕ) → AreValueStarts b old
    → new.last.items ≡ old.last.items ++ next ∷ [] → IsLastStart b (vec_len old.last) next
    → AreValueStarts b new
starts_next b old new next known is last =
    let xs = old.last.items in
    let before : vec_len old.last ≡ length xs = old.last.ok.0 in
    let after : vec_len new.last ≡ length xs + 1
    = omega (arith, new.last.ok.0, ap length is, length-append xs (next ∷ [])) in
    record {
      some = omega (arith, after);
      each = λ count low.
          ⊎_elim
          (λ older. subst (IsLastStart b count)
          (sym (ap (λ ys. get_or ys count 0) is
          ∙ get_or_append_left xs (next ∷ []) 0 count (omega (arith, older, before))))
          (known.each count older))
          (λ newer.
          let here : count ≡ length xs = omega (arith, newer, low, before, after) in
          let value : get_or new.last.items count 0 ≡ next
          = ap (λ ys. get_or ys count 0) is ∙ ap (λ n. get_or (xs ++ next ∷ []) n 0) here
          ∙ get_or-append_seam xs next [] 0 in
          subst (IsLastStart b count) (sym value)
          (subst (λ n. IsLastStart b n next) (before ∙ sym here) last))
          (cases_lt count (vec_len old.last));
    }
