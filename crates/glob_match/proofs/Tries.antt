-- What the search keeps: from the places where it is, the text still matches exactly where it did
-- at the start.
use Rattle.std.proofs.Common.{◌≡◌, ◌≤◌, ◌+◌, ◌↔◌, ℕ, zero, suc, List, [], ◌∷◌, Option, Some, None}
use Rattle.std.proofs.Common.{length, drop, Bor, refl, sym, ◌∙◌, arith}
use Rattle.std.proofs.Common.{ap}
use Rattle.std.proofs.lemmas.List.{drop-drop}
use Rattle.std.proofs.Math.Seq.{drop-nil}
use Rattle.glob_match.specs.Front.{IsRun, IsTaken}
use Rattle.glob_pattern.specs.Pattern.{Matches}

-- Before the first run: nothing was decided yet.
pub record TriesOnce (pattern text rest left : List ℕ) : Type 0 where
  pub same : Matches pattern text ↔ Matches rest left
  pub rest_within : length rest ≤ length pattern
  pub left_within : length left ≤ length text

-- After a run: the text matches where the pattern after the run, `after`, matches some end of
-- `tried`. This many bytes of that pattern and of `tried` are taken already, and `rest` and `left`
-- remain.
pub record TriesFrom (pattern text rest left after tried : List ℕ) : Type 0 where
  pub same : Matches pattern text ↔ ((skipped : ℕ) × Matches after (drop skipped tried))
  pub taken : ℕ
  pub left_is : left ≡ drop taken tried
  pub back : Matches rest left → Matches after tried
  pub takes : (other : List ℕ) → Matches after other → Matches rest (drop taken other)
  pub rest_within : length rest ≤ length pattern
  pub after_within : length after ≤ length pattern

abbrev pub Tries : (pattern text rest left : List ℕ) → Option (Bor (List ℕ) × Bor (List ℕ)) → Type 0
Tries pattern text rest left None = TriesOnce pattern text rest left
Tries pattern text rest left (Some places) =
    TriesFrom pattern text rest left places.0.now places.1.now

-- How many ends of the text remain to be tried.
abbrev pub ends_left : List ℕ → Option (Bor (List ℕ) × Bor (List ℕ)) → ℕ
ends_left text None = length text
ends_left text (Some places) = length places.1.now

-- An end of the taken part's end, after this many more bytes were cut off before it, is an end of
-- what is left.
end_of_left : (j taken k : ℕ) (tried left : List ℕ) → left ≡ drop taken tried
    → drop j (drop taken (drop k tried)) ≡ drop (k + j) left
end_of_left j taken k tried left e =
    let order : (k + taken) + j ≡ taken + (k + j) = omega arith in
    ap (drop j) (drop-drop taken k tried) ∙ drop-drop j (k + taken) tried
    ∙ ap (λ n. drop n tried) order ∙ sym (drop-drop (k + j) taken tried)
    ∙ ap (drop (k + j)) (sym e)

later_end : (pattern text rest left after tried next : List ℕ)
    → TriesFrom pattern text rest left next tried → IsRun rest after → Matches pattern text
    → (skipped : ℕ) × Matches after (drop skipped left)
later_end pattern text rest left after tried next h run m =
    let old = h.same.0 m in
    let there = h.takes (drop old.0 tried) old.1 in
    let found = (run.ends (drop h.taken (drop old.0 tried))).0 there in
    (old.0 + found.0, rw (end_of_left found.0 h.taken old.0 tried left h.left_is) at found.1)

-- A run comes: what follows it is tried from here on.
pub skips : (pattern text rest left after : List ℕ) (retry : Option (Bor (List ℕ) × Bor (List ℕ)))
    → Tries pattern text rest left retry → IsRun rest after
    → TriesFrom pattern text after left after left
skips pattern text rest left after None h run = record {
  same = (λ m. (run.ends left).0 (h.same.0 m), λ m. h.same.1 ((run.ends left).1 m));
  taken = 0;
  left_is = refl;
  back = λ m. m;
  takes = λ other m. m;
  rest_within = omega (arith, run.shorter, h.rest_within);
  after_within = omega (arith, run.shorter, h.rest_within);
}
skips pattern text rest left after (Some places) h run = record {
  same
      = (
        later_end pattern text rest left after places.1.now places.0.now h run,
        λ m. h.same.1 (0, h.back ((run.ends left).1 m)),
      );
  taken = 0;
  left_is = refl;
  back = λ m. m;
  takes = λ other m. m;
  rest_within = omega (arith, run.shorter, h.rest_within);
  after_within = omega (arith, run.shorter, h.rest_within);
}

-- The first element takes a byte.
pub takes_byte : (pattern text rest left after tail : List ℕ)
    (retry : Option (Bor (List ℕ) × Bor (List ℕ)))
    → Tries pattern text rest left retry → IsTaken rest left after tail
    → Tries pattern text after tail retry
takes_byte pattern text rest left after tail None h one = record {
  same = (λ m. rw (one.rest_is) (one.takes_one left (h.same.0 m)), λ m. h.same.1 (one.back m));
  rest_within = omega (arith, one.shorter, h.rest_within);
  left_within = omega (arith, one.rest_shorter, h.left_within);
}
takes_byte pattern text rest left after tail (Some places) h one = record {
  same = h.same;
  taken = h.taken + 1;
  left_is = one.rest_is ∙ ap (drop 1) h.left_is ∙ drop-drop 1 h.taken places.1.now;
  back = λ m. h.back (one.back m);
  takes
      = λ other m. rw (drop-drop 1 h.taken other) at
      (one.takes_one (drop h.taken other) (h.takes other m));
  rest_within = omega (arith, one.shorter, h.rest_within);
  after_within = h.after_within;
}

-- No end of the text is left to be tried.
pub none_left : (pattern text rest left after tried : List ℕ)
    → TriesFrom pattern text rest left after tried → (Matches rest left → ⊥) → tried ≡ []
    → Matches pattern text → ⊥
none_left pattern text rest left after tried h no_match ends m =
    let old = h.same.0 m in
    let same : drop old.0 tried ≡ tried = ap (drop old.0) ends ∙ drop-nil old.0 ∙ sym ends in
    no_match (rw (h.left_is) (h.takes tried (rw same at old.1)))

one_later : (after tried tail : List ℕ) (byte skipped : ℕ) → tried ≡ byte ∷ tail
    → (Matches after tried → ⊥) → Matches after (drop skipped tried)
    → (next : ℕ) × Matches after (drop next tail)
one_later after tried tail byte zero parts no_match m = absurd (no_match m)
one_later after tried tail byte (suc skipped) parts no_match m = (skipped, rw parts at m)

-- The last run gives back one byte more.
pub tries_again : (pattern text rest left after tried tail : List ℕ) (byte : ℕ)
    → TriesFrom pattern text rest left after tried → (Matches rest left → ⊥) → tried ≡ byte ∷ tail
    → TriesFrom pattern text after tail after tail
tries_again pattern text rest left after tried tail byte h no_match parts = record {
  same
      = (
        λ m. let old
            = h.same.0 m in one_later after tried tail byte old.0 parts
            (λ here. no_match (rw (h.left_is) (h.takes tried here))) old.1,
        λ m. h.same.1 (suc m.0, rw parts m.1),
      );
  taken = 0;
  left_is = refl;
  back = λ m. m;
  takes = λ other m. m;
  rest_within = h.after_within;
  after_within = h.after_within;
}
