-- Texts of one line, and the lines of texts that begin with one.
use Rattle.std.proofs.Common.{◌≡◌, ℕ, Bool, true, false, not, ◌&&◌, List, [], ◌∷◌, ◌++◌, length}
use Rattle.std.proofs.Common.{eqb, cond, refl, ap, sym, ◌∙◌, arith}
use Rattle.std.specs.Prelude.{codes}
use Rattle.std.specs.List.{list_all, slice_split, onto_first}
use Rattle.std.specs.Char.{is_ascii_graphic}
use Rattle.std.proofs.lemmas.List.Folds.{list_all-append}
use Rattle.km_names.specs.Ascii.{is_graphic}
use Rattle.km_names.specs.Lines.{lines_of, without_empty_last}
use Rattle.unmet_file.specs.Line.{three_text}
use Rattle.unmet_file.proofs.WordSteps.{both_hold, not-byte, graphic-all}

-- the text has no line end
abbrev pub is_one_line : List ℕ → Bool
is_one_line text = list_all (λ b. not (eqb b 10)) text

one-joined : (a b : List ℕ) → is_one_line a ≡ true → is_one_line b ≡ true
    → is_one_line (a ++ b) ≡ true
one-joined a b h k = rw (list_all-append, h, k) refl

one-shown : (text : List ℕ) → list_all is_ascii_graphic text ≡ true → is_one_line text ≡ true
one-shown [] h = refl
one-shown (b ∷ bs) h =
    let p = both_hold (is_ascii_graphic b) (list_all is_ascii_graphic bs) h in
    ap (λ v. not v && list_all (λ c. not (eqb c 10)) bs) (not-byte b 10 refl p.0) ∙ one-shown bs p.1

one-word : (text : List ℕ) → is_graphic text ≡ true → is_one_line text ≡ true
one-word text h = one-shown text (graphic-all text h)

pub one-two : (a b : List ℕ) → is_graphic a ≡ true → is_graphic b ≡ true
    → is_one_line (a ++ (codes " " ++ b)) ≡ true
one-two a b h k = one-joined a (codes " " ++ b) (one-word a h) (one-word b k)

pub one-three : (a b c : List ℕ) → is_graphic a ≡ true → is_graphic b ≡ true → is_graphic c ≡ true
    → is_one_line (three_text a b c) ≡ true
one-three a b c h k l =
    one-joined a (codes " " ++ (b ++ (codes " " ++ c))) (one-word a h) (one-two b c k l)

-- such a text with its line end is cut off as it is
cut-off : (text others : List ℕ) → is_one_line text ≡ true
    → slice_split (λ b. eqb b 10) (text ++ 10 ∷ others) ≡ text ∷ slice_split (λ b. eqb b 10) others
cut-off [] others h = refl
cut-off (b ∷ bs) others h =
    let p = both_hold (not (eqb b 10)) (list_all (λ c. not (eqb c 10)) bs) h in
    let pieces = slice_split (λ c. eqb c 10) (bs ++ 10 ∷ others) in
    ap (λ v. cond v ([] ∷ pieces) (onto_first b pieces)) (isnt (eqb b 10) p.0)
    ∙ ap (onto_first b) (cut-off bs others p.1)
  where
    isnt : (v : Bool) → not v ≡ true → v ≡ false
    isnt true e = absurd (cc)
    isnt false e = refl

-- what stands before other pieces is kept
kept-first : (piece : List ℕ) (others : List ℕ)
    → without_empty_last (piece ∷ slice_split (λ b. eqb b 10) others)
    ≡ piece ∷ without_empty_last (slice_split (λ b. eqb b 10) others)
kept-first piece others =
    let more = nonempty others in
    ap (λ ps. without_empty_last (piece ∷ ps)) more.2 ∙ before piece more.0 more.1
    ∙ ap (λ ps. piece ∷ without_empty_last ps) (sym more.2)
  where
    nonempty : (text : List ℕ)
        → (p : List ℕ) × (ps : List (List ℕ)) × (slice_split (λ b. eqb b 10) text ≡ p ∷ ps)
    nonempty [] = ([], [], refl)
    nonempty (b ∷ bs) =
        let ih = nonempty bs in
        elim (eqb b 10) as
        (λ v. (p : List ℕ) × (ps : List (List ℕ))
        × (cond v ([] ∷ slice_split (λ c. eqb c 10) bs)
        (onto_first b (slice_split (λ c. eqb c 10) bs))
        ≡ p ∷ ps)) [
          | true ↦ ([], slice_split (λ c. eqb c 10) bs, refl)
          | false ↦ (b ∷ ih.0, ih.1, ap (onto_first b) ih.2)
        ]

    before : (p q : List ℕ) (qs : List (List ℕ))
        → without_empty_last (p ∷ q ∷ qs) ≡ p ∷ without_empty_last (q ∷ qs)
    before [] q qs = refl
    before (b ∷ bs) q qs = refl

-- the first line of a text that begins with one
pub line-first : (text others : List ℕ) → is_one_line text ≡ true
    → lines_of (text ++ 10 ∷ others) ≡ text ∷ lines_of others
unfolding lines_of
line-first text others h = ap without_empty_last (cut-off text others h) ∙ kept-first text others

-- an empty text has no line
pub no-lines : (text : List ℕ) → length text ≡ 0 → lines_of text ≡ []
unfolding lines_of
no-lines [] is = refl
no-lines (b ∷ bs) is = absurd (omega arith)
