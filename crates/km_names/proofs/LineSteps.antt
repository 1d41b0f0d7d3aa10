-- One line more, from the front of a text or of its joined lines.
use Rattle.std.proofs.Common.{◌≡◌, ℕ, ◌+◌, ◌-◌, ◌<◌, true, false, List, [], ◌∷◌, ◌++◌, length, take}
use Rattle.std.proofs.Common.{drop, eqb, Some, None, cond, sym, refl, ap, ◌∙◌, arith}
use Rattle.std.specs.Prelude.{filter, map, not, slice_get}
use Rattle.km_names.specs.Space.{trimmed}
use Rattle.std.specs.List.{slice_split, onto_first, before_first, after_first, position_or_len, All}
use Rattle.std.proofs.lemmas.Bool.{false_from_ne_true, ne_eqb}
use Rattle.std.proofs.lemmas.List.{take_rest, append_assoc, append-nil, nil_from_length}
use Rattle.std.proofs.lemmas.List.Splits.{slice_split_first, slice_split_none}
use Rattle.std.proofs.lemmas.List.Sums.{position_or_len_is}
use Rattle.std.proofs.lemmas.List.Elements.{All-from_get_or}
use Rattle.memchr.specs.Find.{IsFirstByte, is_byte}
use Rattle.km_names.specs.declared.conf.Line.{Line}
use Rattle.km_names.specs.Lines.{lines_of, without_empty_last, goes_on, onto_line, joined_lines}
use Rattle.km_names.specs.Lines.{trimmed_line, is_statement, statements}

split-nonempty : (text : List ℕ)
    → (p : List ℕ) × (ps : List (List ℕ)) × (slice_split (λ b. eqb b 10) text ≡ p ∷ ps)
split-nonempty [] = ([], [], refl)
split-nonempty (b ∷ bs) =
    let ih = split-nonempty bs in
    elim (eqb b 10) as
    (λ v. (p : List ℕ) × (ps : List (List ℕ))
    × (cond v ([] ∷ slice_split (λ c. eqb c 10) bs)
    (onto_first b (slice_split (λ c. eqb c 10) bs))
    ≡ p ∷ ps)) [
      | true ↦ ([], slice_split (λ c. eqb c 10) bs, refl)
      | false ↦ (b ∷ ih.0, ih.1, ap (onto_first b) ih.2)
    ]

not_last : (p q : List ℕ) (qs : List (List ℕ))
    → without_empty_last (p ∷ q ∷ qs) ≡ p ∷ without_empty_last (q ∷ qs)
not_last [] q qs = refl
not_last (b ∷ bs) q qs = refl

last : (p : List ℕ) → 0 < length p → without_empty_last (p ∷ []) ≡ p ∷ []
last [] l = absurd (omega (arith, l))
last (b ∷ bs) l = refl

pub lines-found : (text : List ℕ) (k : ℕ) → IsFirstByte (is_byte 10) text (Some k)
    → lines_of text ≡ take k text ∷ lines_of (take (length text - (k + 1)) (drop (k + 1) text))
unfolding lines_of
lines-found text k h =
    let e : position_or_len (λ b. eqb b 10) text ≡ k
    = position_or_len_is (λ b. eqb b 10) text k 0 (omega (arith, h.0.high))
    (λ j l. false_from_ne_true _ (h.0.before j (omega arith) l)) (λ _. h.1) in
    let cut : slice_split (λ b. eqb b 10) text
    ≡ before_first (λ b. eqb b 10) text
    ∷ slice_split (λ b. eqb b 10) (after_first (λ b. eqb b 10) text)
    = slice_split_first (λ b. eqb b 10) text 0 (omega (arith, e, h.0.high)) in
    let more = split-nonempty (after_first (λ b. eqb b 10) text) in
    ap without_empty_last (cut ∙ ap (λ ps. before_first (λ b. eqb b 10) text ∷ ps) more.2)
    ∙ not_last (before_first (λ b. eqb b 10) text) more.0 more.1
    ∙ ap (λ ps. before_first (λ b. eqb b 10) text ∷ without_empty_last ps) (sym more.2)
    ∙ ap (λ n. take n text ∷ without_empty_last (slice_split (λ b. eqb b 10) (drop (n + 1) text))) e
    ∙ ap (λ rest. take k text ∷ without_empty_last (slice_split (λ b. eqb b 10) rest))
    (sym (take_rest text (k + 1)))

pub lines-none : (text rest : List ℕ) → 0 < length text → IsFirstByte (is_byte 10) text None
    → rest ≡ [] → lines_of text ≡ text ∷ lines_of rest
unfolding lines_of
lines-none text rest l h nil =
    let none : All (λ b. eqb b 10 ≡ false) text
    = All-from_get_or (λ b. eqb b 10 ≡ false) text 0
    (λ j m. false_from_ne_true _ (h j (omega arith) m)) in
    ap without_empty_last (slice_split_none (λ b. eqb b 10) text none) ∙ last text l
    ∙ ap (λ r. text ∷ without_empty_last (slice_split (λ b. eqb b 10) r)) (sym nil)

pub lines-nil : lines_of [] ≡ []
unfolding lines_of
lines-nil = refl

-- nothing put before joined lines that begin with a line of that number
pub onto-nothing : (number : ℕ) (line : List ℕ) (lines : List (List ℕ))
    → joined_lines number (line ∷ lines) ≡ onto_line number [] (joined_lines number (line ∷ lines))
onto-nothing number line lines =
    let later = joined_lines (number + 1) lines in
    elim (goes_on line) as
    (λ v. cond v (onto_line number (take (length line - 1) line) later)
    (record { number = number; text = line } ∷ later)
    ≡ onto_line number []
    (cond v (onto_line number (take (length line - 1) line) later)
    (record { number = number; text = line } ∷ later))) [
      | true ↦ twice number (take (length line - 1) line) later
      | false ↦ refl
    ]
  where
    twice : (n : ℕ) (front : List ℕ) (later : List Line)
        → onto_line n front later ≡ onto_line n [] (onto_line n front later)
    twice n front [] = refl
    twice n front (l ∷ ls) = refl

-- a line that goes on, put behind what stands before it
pub onto-more : (number count : ℕ) (front line : List ℕ) (lines : List (List ℕ))
    → goes_on line ≡ true
    → onto_line number front (joined_lines (number + count) (line ∷ lines))
    ≡ onto_line number (front ++ take (length line - 1) line)
    (joined_lines (number + (count + 1)) lines)
onto-more number count front line lines on =
    let e : number + count + 1 ≡ number + (count + 1) = omega arith in
    rw (on, e) (both (take (length line - 1) line) (joined_lines (number + (count + 1)) lines))
  where
    both : (part : List ℕ) (later : List Line)
        → onto_line number front (onto_line (number + count) part later)
        ≡ onto_line number (front ++ part) later
    both part [] = refl
    both part (l ∷ ls)
        = ap (λ t. record { number = number; text = t } ∷ ls) (sym (append_assoc front part l.text))

-- a line that doesn't go on ends the joined line
pub onto-last : (number count : ℕ) (front line : List ℕ) (lines : List (List ℕ))
    → goes_on line ≡ false
    → onto_line number front (joined_lines (number + count) (line ∷ lines))
    ≡ record { number = number; text = front ++ line }
    ∷ joined_lines (number + (count + 1)) lines
onto-last number count front line lines off =
    let e : number + count + 1 ≡ number + (count + 1) = omega arith in
    rw (off, e) refl

pub statements-nil : statements [] ≡ []
unfolding statements
statements-nil = refl

pub statements-cons : (line : Line) (lines : List Line)
    → statements (line ∷ lines) ≡ statements (line ∷ []) ++ statements lines
unfolding statements
statements-cons line lines =
    elim (is_statement (trimmed_line line).text) as
    (λ v. cond v
    (trimmed_line line ∷ filter (λ l. is_statement l.text) (map trimmed_line lines))
    (filter (λ l. is_statement l.text) (map trimmed_line lines))
    ≡ cond v (trimmed_line line ∷ []) []
    ++ filter (λ l. is_statement l.text) (map trimmed_line lines)) [
      | true ↦ refl
      | false ↦ refl
    ]

pub lines-some : (text : List ℕ) → 0 < length text
    → (line : List ℕ) × (lines : List (List ℕ)) × (lines_of text ≡ line ∷ lines)
unfolding lines_of
lines-some [] l = absurd (omega (arith, l))
lines-some (b ∷ bs) l =
    let some = split-nonempty bs in
    let parts : List (List ℕ) = slice_split (λ c. eqb c 10) bs in
    elim (eqb b 10) as
    (λ v. (line : List ℕ) × (lines : List (List ℕ))
    × (without_empty_last (cond v ([] ∷ parts) (onto_first b parts)) ≡ line ∷ lines)) [
      | true ↦
          ([], without_empty_last (some.0 ∷ some.1), ap (λ ps. without_empty_last ([] ∷ ps)) some.2)
      | false ↦ (
        b ∷ some.0,
        without_empty_last some.1,
        ap (λ ps. without_empty_last (onto_first b ps)) some.2,
      )
    ]

-- before the first line was read
pub onto-start : (text : List ℕ) (number : ℕ) → 0 < length text
    → joined_lines number (lines_of text)
    ≡ onto_line number [] (joined_lines (number + 0) (lines_of text))
onto-start text number l =
    let some = lines-some text l in
    let e : number + 0 ≡ number = omega arith in
    rw (e, some.2) (onto-nothing number some.0 some.1)

-- after the last line was read
pub onto-end : (number count : ℕ) (front rest : List ℕ) → length rest ≡ 0
    → onto_line number front (joined_lines (number + count) (lines_of rest))
    ≡ record { number = number; text = front } ∷ joined_lines (number + count) (lines_of rest)
onto-end number count front rest l =
    let e : rest ≡ [] = nil_from_length rest l in
    let none : lines_of rest ≡ [] = ap lines_of e ∙ lines-nil in
    rw none refl

-- what a line states, by the first byte of its trimmed text
pub states-nothing : (number : ℕ) (text : List ℕ) → is_statement (trimmed text) ≡ false
    → statements (record { number = number; text = text } ∷ []) ≡ []
unfolding statements
states-nothing number text off = rw off refl

pub states-something : (number : ℕ) (text : List ℕ) → is_statement (trimmed text) ≡ true
    → statements (record { number = number; text = text } ∷ [])
    ≡ record { number = number; text = trimmed text } ∷ []
unfolding statements
states-something number text on = rw on refl

pub nothing-first : (text : List ℕ) → None ≡ slice_get text 0 → is_statement text ≡ false
nothing-first [] h = refl
nothing-first (b ∷ bs) h = cc

pub comment-first : (text : List ℕ) (b : ℕ) → Some b ≡ slice_get text 0 → b ≡ 35
    → is_statement text ≡ false
comment-first [] b h is = cc
comment-first (a ∷ more) b h is = let e : a ≡ 35 = cc in ap (λ n. not (eqb n 35)) e

pub other-first : (text : List ℕ) (b : ℕ) → Some b ≡ slice_get text 0 → (b ≡ 35 → ⊥)
    → is_statement text ≡ true
other-first [] b h ne = cc
other-first (a ∷ more) b h ne =
    let e : a ≡ b = cc in let f : eqb a 35 ≡ false = ne_eqb a 35 (λ i. ne (sym e ∙ i)) in ap not f

pub statements-more : (done : List Line) (line : Line) (lines all : List Line) → all ≡ line ∷ lines
    → (done ++ statements (line ∷ [])) ++ statements lines ≡ done ++ statements all
statements-more done line lines all e =
    append_assoc done (statements (line ∷ [])) (statements lines)
    ∙ ap (λ ls. done ++ ls) (sym (ap statements e ∙ statements-cons line lines))

pub statements-end : (done : List Line) (number : ℕ) (rest : List ℕ) → length rest ≡ 0
    → done ≡ done ++ statements (joined_lines number (lines_of rest))
statements-end done number rest l =
    let e : rest ≡ [] = nil_from_length rest l in
    let none : lines_of rest ≡ [] = ap lines_of e ∙ lines-nil in
    sym (ap (λ ls. done ++ statements (joined_lines number ls)) none
    ∙ ap (λ ls. done ++ ls) statements-nil ∙ append-nil done)

pub nothing-pushed : (done : List Line) (number : ℕ) (text cut : List ℕ) → cut ≡ trimmed text
    → is_statement cut ≡ false
    → done ≡ done ++ statements (record { number = number; text = text } ∷ [])
nothing-pushed done number text cut e off =
    sym (ap (λ ls. done ++ ls) (states-nothing number text (ap is_statement (sym e) ∙ off))
    ∙ append-nil done)

pub something-pushed : (done : List Line) (number : ℕ) (text cut copy : List ℕ) → cut ≡ trimmed text
    → is_statement cut ≡ true → copy ≡ cut
    → done ++ record { number = number; text = copy } ∷ []
    ≡ done ++ statements (record { number = number; text = text } ∷ [])
something-pushed done number text cut copy e on same =
    ap (λ t. done ++ record { number = number; text = t } ∷ []) (same ∙ e)
    ∙ sym (ap (λ ls. done ++ ls) (states-something number text (ap is_statement (sym e) ∙ on)))
