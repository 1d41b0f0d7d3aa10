-- Texts read line by line: what is counted and taken from the lines.
use Rattle.std.proofs.Common.{◌≡◌, ℕ, ◌+◌, ◌≤◌, ◌==◌, Bool, true, false, List, [], ◌∷◌, ◌++◌}
use Rattle.std.proofs.Common.{length, cond, refl, sym, ap, ◌∙◌, append-nil, arith, length-append}
use Rattle.std.proofs.Common.{length-drop}
use Rattle.std.specs.List.{after_first, flat_map, onto_first, position_or_len, slice_split}
use Rattle.km_names.specs.Lines.{lines_of, without_empty_last}
use Rattle.km_names.specs.Space.{is_space, nonempty, words}
use Rattle.outside_calls.specs.Contents.{Contents}
use Rattle.command_trial.specs.Summary.{dependencies_in, images_of, paths_after_colon}

-- an empty text has no line
pub no-lines : (text : List ℕ) → length text ≡ 0 → lines_of text ≡ []
unfolding lines_of
no-lines [] is = refl
no-lines (b ∷ bs) is = absurd (omega arith)

-- what is counted of a line, and of those after it
pub count-on : (take_from : List ℕ → List (List ℕ)) (text line rest : List ℕ)
    → lines_of text ≡ line ∷ lines_of rest
    → length (flat_map take_from (lines_of text))
    ≡ length (take_from line) + length (flat_map take_from (lines_of rest))
count-on take_from text line rest cut =
    ap (λ ls. length (flat_map take_from ls)) cut
    ∙ length-append (take_from line) (flat_map take_from (lines_of rest))

-- nothing is counted of no line
pub count-none : (take_from : List ℕ → List (List ℕ)) (text : List ℕ) → length text ≡ 0
    → length (flat_map take_from (lines_of text)) ≡ 0
count-none take_from text over = ap (λ ls. length (flat_map take_from ls)) (no-lines text over)

-- the images of no line
pub images-none : (files : Contents) (take_from : List ℕ → List (List ℕ)) (before all text : List ℕ)
    → length text ≡ 0 → before ++ images_of files (flat_map take_from (lines_of text)) ≡ all
    → before ≡ all
images-none files take_from before all text over is =
    sym (append-nil before)
    ∙ ap (λ ls. before ++ images_of files (flat_map take_from ls)) (sym (no-lines text over))
    ∙ is

-- ---- a text has no more words than bytes

-- how many bytes pieces have together
bytes_in : List (List ℕ) → ℕ
bytes_in [] = 0
bytes_in (piece ∷ pieces) = length piece + bytes_in pieces

onto-bytes : (b : ℕ) (pieces : List (List ℕ)) → bytes_in (onto_first b pieces) ≤ bytes_in pieces + 1
unfolding bytes_in
onto-bytes b [] = omega arith
onto-bytes b (piece ∷ pieces) = omega arith

split-bytes : (p : ℕ → Bool) (text : List ℕ) → bytes_in (slice_split p text) ≤ length text
unfolding bytes_in
split-bytes p [] = omega arith
split-bytes p (b ∷ bs) = go (p b) (split-bytes p bs)
  where
    go : (cut : Bool) → bytes_in (slice_split p bs) ≤ length bs
        → bytes_in (cond cut ([] ∷ slice_split p bs) (onto_first b (slice_split p bs)))
        ≤ length (b ∷ bs)
    go true rest = omega arith
    go false rest = omega (arith, onto-bytes b (slice_split p bs))

last-bytes : (pieces : List (List ℕ)) → bytes_in (without_empty_last pieces) ≤ bytes_in pieces
unfolding bytes_in
last-bytes [] = omega arith
last-bytes ([] ∷ []) = omega arith
last-bytes ([] ∷ (piece ∷ pieces)) = omega (arith, last-bytes (piece ∷ pieces))
last-bytes ((b ∷ bs) ∷ pieces) = omega (arith, last-bytes pieces)

lines-bytes : (text : List ℕ) → bytes_in (lines_of text) ≤ length text
unfolding lines_of
lines-bytes text =
    omega (arith, last-bytes (slice_split (λ b. b == 10) text), split-bytes (λ b. b == 10) text)

nonempty-few : (pieces : List (List ℕ)) → length (nonempty pieces) ≤ bytes_in pieces
unfolding bytes_in
nonempty-few [] = omega arith
nonempty-few ([] ∷ pieces) = omega (arith, nonempty-few pieces)
nonempty-few ((b ∷ bs) ∷ pieces) = omega (arith, nonempty-few pieces)

words-few : (text : List ℕ) → length (words text) ≤ length text
unfolding words
words-few text = omega (arith, nonempty-few (slice_split is_space text), split-bytes is_space text)

paths-few : (line : List ℕ) → length (paths_after_colon line) ≤ length line
paths-few line =
    omega (
      arith,
      words-few (after_first (λ b. b == 58) line),
      length-drop (position_or_len (λ b. b == 58) line + 1) line,
    )

each-few : (lines : List (List ℕ)) → length (flat_map paths_after_colon lines) ≤ bytes_in lines
unfolding bytes_in
each-few [] = omega arith
each-few (line ∷ lines) =
    omega (
      arith,
      paths-few line,
      each-few lines,
      length-append (paths_after_colon line) (flat_map paths_after_colon lines),
    )

-- so a modules.dep lists no more dependencies than it has bytes
pub dependencies-few : (text : List ℕ) → length (dependencies_in text) ≤ length text
dependencies-few text = omega (arith, each-few (lines_of text), lines-bytes text)
