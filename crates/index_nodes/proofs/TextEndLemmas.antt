-- Where texts end.
use Rattle.std.proofs.Common.{◌≡◌, refl, sym, ap, ◌∙◌, ⊎_elim, ℕ, ◌+◌, ◌-◌, ◌*◌, ◌<◌, ◌≤◌, Bool}
use Rattle.std.proofs.Common.{true, false, not, cond, List, [], ◌∷◌, length, map, take, drop}
use Rattle.std.proofs.Common.{get_or, None, Some, arith}
use Rattle.std.proofs.lemmas.Bool.{eq-eqb, ne_eqb, eqb-true, cases_lt, true≢false}
use Rattle.std.proofs.lemmas.List.{get_or-drop, get_or-take, length-drop, length-take}
use Rattle.std.proofs.lemmas.List.Sums.{position_or_len_is, prefix_len-le-length}
use Rattle.std.proofs.lemmas.Simd.{length-chunk, trailing_mask_l, run_in_chunk_le}
use Rattle.std.proofs.lemmas.Simd.{run_in_chunk_fails, run_in_chunk_stops}
use Rattle.std.specs.List.{prefix_len}
use lib.Lanes.{chunk, mask_l}
use lib.Count.{count_trailing_zeros}
use Rattle.memchr.specs.Find.{IsFirstByte, is_byte}
use Rattle.index_format.specs.Node.{is_nul, text}
use Rattle.index_nodes.specs.TextEnds.{IsTextEnd}
use Rattle.index_nodes.proofs.FieldLemmas.{length-text}

-- its length
pub length-text_end : (b : List ℕ) (start end : ℕ) → IsTextEnd b start end
    → length (text (drop start b)) ≡ end - start
length-text_end b start end e =
    let there : start + (end - start) ≡ end = omega (arith, e.low) in
    length-text (drop start b)
    ∙ position_or_len_is is_nul (drop start b) (end - start) 0
    (omega (arith, e.low, e.high, length-drop start b))
    (λ k lt. ne_eqb (get_or (drop start b) k 0) 0
    (λ z. e.clear (start + k) (omega arith) (omega (arith, lt))
    (sym (get_or-drop start b k 0) ∙ z)))
    (λ lt. eq-eqb (get_or (drop start b) (end - start) 0) 0
    (get_or-drop start b (end - start) 0 ∙ ap (λ k. get_or b k 0) there
    ∙ e.nul (omega (arith, lt, length-drop start b))))

module _ (b : List ℕ) (start later later_end : ℕ) (order : start ≤ later)
    (within : later ≤ length b) (e : IsTextEnd b later later_end) where
  piece : List ℕ
  piece = take (later - start) (drop start b)

  piece_at : (k : ℕ) → k < later - start → get_or piece k 0 ≡ get_or b (start + k) 0
  unfolding piece
  piece_at k lt = get_or-take (later - start) (drop start b) k 0 lt ∙ get_or-drop start b k 0

  size : length piece ≡ later - start
  unfolding piece
  size
      = omega
      (arith, length-take (later - start) (drop start b), length-drop start b, order, within)

  -- the first NUL of what stands between
  pub end_found : (place : ℕ)
      → IsFirstByte (is_byte 0) (take (later - start) (drop start b)) (Some place)
      → IsTextEnd b start (start + place)
  unfolding piece
  end_found place f = record {
    low = omega arith;
    high = omega (arith, f.0.high, size, within);
    clear = λ k from to z.
        let here : start + (k - start) ≡ k = omega (arith, from) in
        f.0.before (k - start) (omega arith) (omega (arith, from, to))
        (eq-eqb (get_or piece (k - start) 0) 0
        (piece_at (k - start) (omega (arith, from, to, f.0.high, size))
        ∙ ap (λ j. get_or b j 0) here ∙ z));
    nul
        = λ _. sym (piece_at place (omega (arith, f.0.high, size)))
        ∙ eqb-true (get_or piece place 0) 0 f.1;
  }

  -- there is none
  pub end_later : IsFirstByte (is_byte 0) (take (later - start) (drop start b)) None
      → IsTextEnd b start later_end
  unfolding piece
  end_later f = record {
    low = omega (arith, order, e.low);
    high = e.high;
    clear = λ k from to z.
        let here : start + (k - start) ≡ k = omega (arith, from) in
        ⊎_elim
        (λ before. f (k - start) (omega arith) (omega (arith, from, before, size))
        (eq-eqb (get_or piece (k - start) 0) 0
        (piece_at (k - start) (omega (arith, from, before)) ∙ ap (λ j. get_or b j 0) here
        ∙ z)))
        (λ after. e.clear k after to z)
        (cases_lt k later);
    nul = e.nul;
  }

-- at the end of the file ends the text that begins there
pub end_of_file : (b : List ℕ) → IsTextEnd b (length b) (length b)
end_of_file b = record {
  low = omega arith;
  high = omega arith;
  clear = λ k from to. absurd (omega (arith, from, to));
  nul = λ within. absurd (omega (arith, within));
}
