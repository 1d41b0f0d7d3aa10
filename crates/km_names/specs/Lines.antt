-- The lines of text files, and the joined lines of configuration files. modprobe.d(5), depmod.d(5).
use Rattle.std.specs.Prelude.{ℕ, ◌+◌, ◌-◌, List, [], ◌∷◌, ◌++◌, Bool, false, not, ◌==◌}
use Rattle.std.specs.Prelude.{if◌then◌else◌, nat_eq, length, take, map, filter, flat_map}
use Rattle.std.specs.List.{slice_split, ends_with}
use Rattle.km_names.specs.declared.conf.Line.{Line}
use Rattle.km_names.specs.Space.{trimmed}

-- The pieces, without the last if it is empty.
abbrev pub without_empty_last : List (List ℕ) → List (List ℕ)
without_empty_last [] = []
without_empty_last ([] ∷ []) = []
without_empty_last (piece ∷ pieces) = piece ∷ without_empty_last pieces

-- The lines of a text: the pieces between its line ends, and the piece after the last one unless it
-- is empty.
unfoldable pub lines_of : List ℕ → List (List ℕ)
lines_of text = without_empty_last (slice_split (λ b. b == 10) text)

-- The text of lines: each of them with a line end.
abbrev pub lines_text : List (List ℕ) → List ℕ
lines_text lines = flat_map (λ line. line ++ 10 ∷ []) lines

-- Whether a line continues in the next: its last byte is `\`.
abbrev pub goes_on : List ℕ → Bool
goes_on line = ends_with nat_eq line (92 ∷ [])

-- The lines with a text put before the first of them, under the text's own number.
abbrev pub onto_line : ℕ → List ℕ → List Line → List Line
onto_line number front [] = record { number = number; text = front } ∷ []
onto_line number front (line ∷ lines) =
    record { number = number; text = front ++ line.text } ∷ lines

-- The joined lines, if the first line has this number. A line that continues goes before the text
-- of the next, without its `\`, and keeps its own number.
abbrev pub joined_lines : ℕ → List (List ℕ) → List Line
joined_lines number [] = []
joined_lines number (line ∷ lines) =
    if goes_on line
    then onto_line number (take (length line - 1) line) (joined_lines (number + 1) lines)
    else record { number = number; text = line } ∷ joined_lines (number + 1) lines

-- Whether a text states something: it isn't empty, and it isn't a comment, which begins with `#`.
abbrev pub is_statement : List ℕ → Bool
is_statement [] = false
is_statement (b ∷ bs) = not (b == 35)

-- The line with its text without white space at either end.
abbrev pub trimmed_line : Line → Line
trimmed_line line = record { number = line.number; text = trimmed line.text }

-- The lines without white space at either end, and without those that state nothing.
unfoldable pub statements : List Line → List Line
statements lines = filter (λ line. is_statement line.text) (map trimmed_line lines)

-- The lines of a configuration file that state something, joined, each with the number of its first
-- part, from 1.
unfoldable pub conf_lines : List ℕ → List Line
conf_lines bytes = statements (joined_lines 1 (lines_of bytes))
