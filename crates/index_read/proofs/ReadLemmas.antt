-- The bytes of a key that are read from a file.
use Rattle.std.proofs.Common.{◌≡◌, sym, ap, subst, ◌∙◌, ◌++◌, ◌+◌, ◌-◌, ◌≤◌, ◌<◌, ◌↔◌, List, [], ℕ}
use Rattle.std.proofs.Common.{false, Option, Some, None, is_some, IfNone, IsTrue, take, drop, arith}
use Rattle.std.proofs.Common.{append_assoc}
use Rattle.std.proofs.lemmas.Bool.{false≢true}
use Rattle.std.proofs.lemmas.Grind.{same_number_lists}
use Rattle.std.proofs.lemmas.List.{append-nil, drop-drop}
use Rattle.std.proofs.Math.Seq.{take-add}
use Rattle.glob_pattern.specs.Pattern.{Matches}
use Rattle.glob_match.specs.Progress.{IsText, IsWhole, IsOver, HasRead}
use Rattle.glob_match.specs.declared.progress.Progress.{Progress}
use Rattle.index_read.specs.declared.key_tables.KeyTables.{KeyTables}
use Rattle.index_read.specs.Searches.{IsLost, AreKnown, IsReady}

-- ---- the text of a progress

same_text : (text other bytes : List ℕ) (size : ℕ) → IsText text bytes size
    → IsText other bytes size → text ≡ other
same_text text other bytes size t o =
    same_number_lists text other (sym t.size_is ∙ o.size_is) (λ k lt. sym (t.same k) ∙ o.same k)

-- What is known is for the text that the progress is over.
pub known_over : (b text : List ℕ) (p : Progress) (k : KeyTables) → IsReady b p k → IsOver p text
    → AreKnown b text k
known_over b text p k r over =
    subst (λ t. AreKnown b t k) (same_text r.text text p.bytes.items p.size r.over over) r.known

pub on_none : {A P : Type 0} (o : Option A) → is_some o ≡ false → IfNone o P → P
on_none None e h = h
on_none (Some x) e h = absurd (false≢true (sym e))

-- ---- keys that begin like a lost one

pub lost_more : (text front more : List ℕ) → IsLost text front → IsLost text (front ++ more)
lost_more text front more lost rest m =
    lost (more ++ rest) (subst (λ k. Matches k text) (append_assoc front more rest) m)

-- ---- bytes of the file, from a place up to another

no_part : (b : List ℕ) (at : ℕ) → take (at - at) (drop at b) ≡ []
no_part b at =
    let none : at - at ≡ 0 = omega arith in
    ap (λ n. take n (drop at b)) none

-- Two parts, one after the other.
part_more : (b : List ℕ) (start at next : ℕ) → start ≤ at → at ≤ next
    → take (next - start) (drop start b)
    ≡ take (at - start) (drop start b) ++ take (next - at) (drop at b)
part_more b start at next low high =
    let size : next - start ≡ (at - start) + (next - at) = omega (arith, low, high) in
    let there : start + (at - start) ≡ at = omega (arith, low) in
    ap (λ n. take n (drop start b)) size
    ∙ take-add (at - start) (next - at) (drop start b)
    ∙ ap (λ bs. take (at - start) (drop start b) ++ take (next - at) bs)
    (drop-drop (at - start) start b ∙ ap (λ n. drop n b) there)

-- A key up to a place, and on to the next one.
parts_on : (b pattern : List ℕ) (start at next : ℕ) → start ≤ at → at ≤ next
    → (pattern ++ take (at - start) (drop start b)) ++ take (next - at) (drop at b)
    ≡ pattern ++ take (next - start) (drop start b)
parts_on b pattern start at next low high =
    append_assoc pattern (take (at - start) (drop start b)) (take (next - at) (drop at b))
    ∙ ap (λ bs. pattern ++ bs) (sym (part_more b start at next low high))

-- ---- a key that is read

-- The bytes so far were read.
pub record Reading (old new : Progress) (b : List ℕ) (start at end : ℕ) : Type 0 where
  pub low : start ≤ at
  pub high : at ≤ end
  pub whole : IsWhole new
  pub over : (text : List ℕ) → IsOver old text → IsOver new text
  pub more : (text pattern : List ℕ) → IsOver old text → HasRead old text pattern
      → HasRead new text (pattern ++ take (at - start) (drop start b))

pub begin : (p : Progress) (b : List ℕ) (start end : ℕ) → start ≤ end → IsWhole p
    → Reading p p b start start end
begin p b start end order whole = record {
  low = omega arith;
  high = order;
  whole = whole;
  over = λ text o. o;
  more
      = λ text pattern o h. subst (HasRead p text)
      (sym (ap (λ bs. pattern ++ bs) (no_part b start) ∙ append-nil pattern)) h;
}

module _ (old now : Progress) (b : List ℕ) (start at end : ℕ) (w : Reading old now b start at end)
  where
    pub read_on : (new : Progress) (next : ℕ) → at < next → next ≤ end → IsWhole new
        → ((text : List ℕ) → IsOver now text → IsOver new text)
        → ((text pattern : List ℕ) → IsOver now text → HasRead now text pattern
        → HasRead new text (pattern ++ take (next - at) (drop at b)))
        → Reading old new b start next end
    read_on new next order high whole over more = record {
      low = omega (arith, w.low, order);
      high = high;
      whole = whole;
      over = λ text o. over text (w.over text o);
      more = λ text pattern o h.
          subst (HasRead new text) (parts_on b pattern start at next w.low (omega (arith, order)))
          (more text (pattern ++ take (at - start) (drop start b)) (w.over text o)
          (w.more text pattern o h));
    }

    -- What is so of the key up to here with the bytes to come is so of the whole.
    pub whole_key : (pattern : List ℕ)
        → (pattern ++ take (at - start) (drop start b)) ++ take (end - at) (drop at b)
        ≡ pattern ++ take (end - start) (drop start b)
    whole_key pattern = parts_on b pattern start at end w.low w.high

    -- It was read to the end.
    pub all_read : (text pattern : List ℕ) → at ≡ end → IsOver old text → HasRead old text pattern
        → HasRead now text (pattern ++ take (end - start) (drop start b))
    all_read text pattern done o h
        = subst (λ k. HasRead now text (pattern ++ take (k - start) (drop start b))) done
        (w.more text pattern o h)

    -- It is lost.
    pub all_lost : (text pattern : List ℕ)
        → IsLost text (pattern ++ take (at - start) (drop start b))
        → IsLost text (pattern ++ take (end - start) (drop start b))
    all_lost text pattern lost
        = subst (IsLost text) (whole_key pattern)
        (lost_more text (pattern ++ take (at - start) (drop start b))
        (take (end - at) (drop at b)) lost)

pub never : (text key : List ℕ) → IsLost text key → IsTrue false ↔ Matches key text
never text key lost = (
  λ e. absurd (false≢true e),
  λ m. absurd (lost [] (subst (λ k. Matches k text) (sym (append-nil key)) m)),
)
