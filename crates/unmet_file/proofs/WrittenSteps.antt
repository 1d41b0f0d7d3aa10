-- A file's text, line by line, and what is read of it.
use Rattle.std.proofs.Common.{◌≡◌, ℕ, ◌+◌, ◌<◌, Bool, true, false, ◌&&◌, List, [], ◌∷◌, ◌++◌}
use Rattle.std.proofs.Common.{length, Option, Some, None, option_map, refl, sym, ap, subst, ◌∙◌}
use Rattle.std.proofs.Common.{append_assoc, length-append, arith}
use Rattle.std.specs.Prelude.{codes, All, if◌then◌else◌}
use Rattle.std.specs.List.{filter_map, cons_option}
use Rattle.std.specs.Str.{bytes_eq}
use Rattle.std.proofs.lemmas.List.Elements.{All-head, All-tail}
use Rattle.std.proofs.lemmas.Slice.Eq.{bytes_eq-Decides}
use Rattle.km_names.specs.Ascii.{is_graphic}
use Rattle.km_names.specs.Lines.{lines_of}
use Rattle.symbol_binding.specs.declared.unbound.Unbound.{Unbound}
use Rattle.symbol_binding.specs.declared.unbound.Unbound.TheVariants.{Missing, Gpl, Version}
use Rattle.symbol_binding.specs.declared.unbound.Unbound.TheVariants.{Namespace, Double}
use Rattle.km_names.specs.Space.{before_space, past_space}
use Rattle.unmet_file.specs.Line.{two_words, three_words, three_text, line_text}
use Rattle.unmet_file.specs.Line.{is_line, unmet_line}
use Rattle.unmet_file.specs.Unmet.{file_text, stated_lines, AreReadBack, IsReadAsWritten}
use Rattle.unmet_file.proofs.WordSteps.{both_hold, two-back, three-back, joined, two-written}
use Rattle.unmet_file.proofs.WordSteps.{three-written}
use Rattle.unmet_file.proofs.TextLines.{is_one_line, one-two, one-three, line-first}
use Rattle.unmet_file.proofs.LineSteps.{place_at, place-begins, place-none, place-passed, all-read}

-- the words of a line, one by one
two-names : (a b : List ℕ) → (is_graphic a && (is_graphic b && true)) ≡ true
    → (is_graphic a ≡ true) × (is_graphic b ≡ true)
two-names a b h =
    let p = both_hold (is_graphic a) (is_graphic b && true) h in
    (p.0, (both_hold (is_graphic b) true p.1).0)

three-names : (a b c : List ℕ) → (is_graphic a && (is_graphic b && (is_graphic c && true))) ≡ true
    → (is_graphic a ≡ true) × (is_graphic b ≡ true) × (is_graphic c ≡ true)
three-names a b c h =
    let p = both_hold (is_graphic a) (is_graphic b && (is_graphic c && true)) h in
    let q = two-names b c p.1 in
    (p.0, q.0, q.1)

-- a line is read back
pub line-back : (line : Unbound) → is_line line ≡ true → unmet_line (line_text line) ≡ Some line
unfolding is_line line_text unmet_line
line-back (Missing path symbol) h =
    let p = two-names path symbol h in
    ap (option_map (λ w. Missing w.0 w.1)) (two-back path symbol p.0 p.1)
line-back (Gpl path symbol provider) h =
    let p = three-names path symbol provider h in
    ap (option_map (λ w. Gpl w.0 w.1 w.2)) (three-back path symbol provider p.0 p.1 p.2)
line-back (Version path symbol provider) h =
    let p = three-names path symbol provider h in
    ap (option_map (λ w. Version w.0 w.1 w.2)) (three-back path symbol provider p.0 p.1 p.2)
line-back (Namespace path symbol provider) h =
    let p = three-names path symbol provider h in
    ap (option_map (λ w. Namespace w.0 w.1 w.2)) (three-back path symbol provider p.0 p.1 p.2)
line-back (Double symbol first second) h =
    let p = three-names symbol first second h in
    ap (option_map (λ w. Double w.0 w.1 w.2)) (three-back symbol first second p.0 p.1 p.2)

one-text : (line : Unbound) → is_line line ≡ true → is_one_line (line_text line) ≡ true
unfolding is_line line_text
one-text (Missing path symbol) h = let p = two-names path symbol h in one-two path symbol p.0 p.1
one-text (Gpl path symbol provider) h =
    let p = three-names path symbol provider h in one-three path symbol provider p.0 p.1 p.2
one-text (Version path symbol provider) h =
    let p = three-names path symbol provider h in one-three path symbol provider p.0 p.1 p.2
one-text (Namespace path symbol provider) h =
    let p = three-names path symbol provider h in one-three path symbol provider p.0 p.1 p.2
one-text (Double symbol first second) h =
    let p = three-names symbol first second h in one-three symbol first second p.0 p.1 p.2

-- the lines are words of visible characters, one by one
all-lines : (line : Unbound) (lines : List Unbound) → All (λ l. is_line l ≡ true) (line ∷ lines)
    → (is_line line ≡ true) × All (λ l. is_line l ≡ true) lines
all-lines line lines h =
    (All-head (λ l. is_line l ≡ true) line lines h, All-tail (λ l. is_line l ≡ true) line lines h)

-- the lines of a file's text
lines-first : (line : Unbound) (lines : List Unbound) → is_line line ≡ true
    → lines_of (file_text (line ∷ lines)) ≡ line_text line ∷ lines_of (file_text lines)
unfolding file_text
lines-first line lines h =
    ap lines_of (append_assoc (line_text line) (10 ∷ []) (file_text lines))
    ∙ line-first (line_text line) (file_text lines) (one-text line h)

no-text : lines_of (file_text []) ≡ []
unfolding file_text lines_of
no-text = refl

-- they state what they were written of
stated-back : (lines : List Unbound) → All (λ l. is_line l ≡ true) lines
    → filter_map unmet_line (lines_of (file_text lines)) ≡ lines
stated-back [] h = ap (filter_map unmet_line) no-text
stated-back (line ∷ lines) h =
    let p = all-lines line lines h in
    ap (filter_map unmet_line) (lines-first line lines p.0)
    ∙ ap (λ o. cons_option o (filter_map unmet_line (lines_of (file_text lines))))
    (line-back line p.0)
    ∙ ap (λ ls. line ∷ ls) (stated-back lines p.1)

-- and none of them is bad
none-bad : (file : List ℕ) (number : ℕ) (lines : List Unbound) → All (λ l. is_line l ≡ true) lines
    → place_at file number (lines_of (file_text lines)) ≡ None
none-bad file number [] h = ap (place_at file number) no-text ∙ place-none file number
none-bad file number (line ∷ lines) h =
    let p = all-lines line lines h in
    ap (place_at file number) (lines-first line lines p.0)
    ∙ place-passed file number (line_text line) (lines_of (file_text lines)) line
    (sym (line-back line p.0))
    ∙ none-bad file (number + 1) lines p.1

pub all-back : AreReadBack
unfolding stated_lines
all-back file lines h =
    all-read file (file_text lines) lines
    (sym (place-begins file (file_text lines)) ∙ none-bad file 1 lines h) (stated-back lines h)

-- the first word of a line, before the others
named-first : (text name others : List ℕ) → bytes_eq (before_space text) name ≡ true
    → others ≡ past_space text
    → 0 < length (past_space text) → name ++ 32 ∷ others ≡ text
named-first text name others is are some =
    ap (λ xs. xs ++ 32 ∷ others) (sym ((bytes_eq-Decides (before_space text) name).0 is))
    ∙ ap (λ xs. before_space text ++ 32 ∷ xs) are
    ∙ joined text some

some-text : (a b text : List ℕ) → a ++ 32 ∷ b ≡ text → 0 < length text
some-text a b text is = subst (λ xs. 0 < length xs) is (omega (arith, length-append a (32 ∷ b)))

-- a line of two names, and one of three
of-two : (text name : List ℕ) (make : List ℕ → List ℕ → Unbound) (line : Unbound)
    → bytes_eq (before_space text) name ≡ true
    → option_map (λ w. make w.0 w.1) (two_words (past_space text)) ≡ Some line
    → (w : List ℕ × List ℕ) × (make w.0 w.1 ≡ line)
    × (name ++ 32 ∷ (w.0 ++ (codes " " ++ w.1)) ≡ text) × (is_graphic w.0 ≡ true)
    × (is_graphic w.1 ≡ true)
of-two text name make line is stated = go (two_words (past_space text)) refl stated
  where
    go : (o : Option (List ℕ × List ℕ)) → two_words (past_space text) ≡ o
        → option_map (λ w. make w.0 w.1) o ≡ Some line
        → (w : List ℕ × List ℕ) × (make w.0 w.1 ≡ line)
        × (name ++ 32 ∷ (w.0 ++ (codes " " ++ w.1)) ≡ text) × (is_graphic w.0 ≡ true)
        × (is_graphic w.1 ≡ true)
    go None e h = absurd (cc)
    go (Some w) e h =
        let two = two-written (past_space text) w e in (
          w,
          cc,
          named-first text name (w.0 ++ (codes " " ++ w.1)) is two.text_is
              (some-text w.0 w.1 (past_space text) two.text_is),
          two.first,
          two.second,
        )

of-three : (text name : List ℕ) (make : List ℕ → List ℕ → List ℕ → Unbound) (line : Unbound)
    → bytes_eq (before_space text) name ≡ true
    → option_map (λ w. make w.0 w.1 w.2) (three_words (past_space text)) ≡ Some line
    → (w : List ℕ × List ℕ × List ℕ) × (make w.0 w.1 w.2 ≡ line)
    × (name ++ 32 ∷ three_text w.0 w.1 w.2 ≡ text) × (is_graphic w.0 ≡ true)
    × (is_graphic w.1 ≡ true) × (is_graphic w.2 ≡ true)
of-three text name make line is stated = go (three_words (past_space text)) refl stated
  where
    go : (o : Option (List ℕ × List ℕ × List ℕ)) → three_words (past_space text) ≡ o
        → option_map (λ w. make w.0 w.1 w.2) o ≡ Some line
        → (w : List ℕ × List ℕ × List ℕ) × (make w.0 w.1 w.2 ≡ line)
        × (name ++ 32 ∷ three_text w.0 w.1 w.2 ≡ text) × (is_graphic w.0 ≡ true)
        × (is_graphic w.1 ≡ true) × (is_graphic w.2 ≡ true)
    go None e h = absurd (cc)
    go (Some w) e h =
        let three = three-written (past_space text) w e in (
          w,
          cc,
          named-first text name (three_text w.0 w.1 w.2) is three.text_is
              (some-text w.0 (w.1 ++ (codes " " ++ w.2)) (past_space text) three.text_is),
          three.first,
          three.second,
          three.third,
        )

-- what was read is what was written
abbrev WasWritten : List ℕ → Unbound → Type 0
WasWritten text line = (line_text line ≡ text) × (is_line line ≡ true)

two-shown : (a b : List ℕ) → is_graphic a ≡ true → is_graphic b ≡ true
    → (is_graphic a && (is_graphic b && true)) ≡ true
two-shown a b h k = rw (h, k) refl

three-shown : (a b c : List ℕ) → is_graphic a ≡ true → is_graphic b ≡ true → is_graphic c ≡ true
    → (is_graphic a && (is_graphic b && (is_graphic c && true))) ≡ true
three-shown a b c h k l = rw (h, k, l) refl

pub as-written : IsReadAsWritten
unfolding unmet_line line_text is_line
as-written text line h =
    go (bytes_eq (before_space text) (codes "missing")) (bytes_eq (before_space text) (codes "gpl"))
    (bytes_eq (before_space text) (codes "version"))
    (bytes_eq (before_space text) (codes "namespace"))
    (bytes_eq (before_space text) (codes "double")) refl refl
    refl refl refl h
  where
    go : (a b c d e : Bool) → bytes_eq (before_space text) (codes "missing") ≡ a
        → bytes_eq (before_space text) (codes "gpl") ≡ b
        → bytes_eq (before_space text) (codes "version") ≡ c
        → bytes_eq (before_space text) (codes "namespace") ≡ d
        → bytes_eq (before_space text) (codes "double") ≡ e
        → (if a then option_map (λ w. Missing w.0 w.1) (two_words (past_space text))
        else if b then option_map (λ w. Gpl w.0 w.1 w.2) (three_words (past_space text))
        else if c then option_map (λ w. Version w.0 w.1 w.2) (three_words (past_space text))
        else if d then option_map (λ w. Namespace w.0 w.1 w.2) (three_words (past_space text))
        else if e then option_map (λ w. Double w.0 w.1 w.2) (three_words (past_space text))
        else None) ≡ Some line → WasWritten text line
    go true b c d e p q r s t is =
        let w = of-two text (codes "missing") Missing line p is in
        subst (WasWritten text) w.1 (w.2, two-shown w.0.0 w.0.1 w.3 w.4)
    go false true c d e p q r s t is =
        let w = of-three text (codes "gpl") Gpl line q is in
        subst (WasWritten text) w.1 (w.2, three-shown w.0.0 w.0.1 w.0.2 w.3 w.4 w.5)
    go false false true d e p q r s t is =
        let w = of-three text (codes "version") Version line r is in
        subst (WasWritten text) w.1 (w.2, three-shown w.0.0 w.0.1 w.0.2 w.3 w.4 w.5)
    go false false false true e p q r s t is =
        let w = of-three text (codes "namespace") Namespace line s is in
        subst (WasWritten text) w.1 (w.2, three-shown w.0.0 w.0.1 w.0.2 w.3 w.4 w.5)
    go false false false false true p q r s t is =
        let w = of-three text (codes "double") Double line t is in
        subst (WasWritten text) w.1 (w.2, three-shown w.0.0 w.0.1 w.0.2 w.3 w.4 w.5)
    go false false false false false p q r s t is = absurd (cc)
