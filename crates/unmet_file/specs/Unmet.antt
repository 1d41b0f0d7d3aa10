-- The file modules.unmet: its text, and what is read from one.
use Rattle.std.specs.Prelude.{◌≡◌, ℕ, ◌+◌, true, All, List, [], ◌∷◌, ◌++◌, Option, Some, option_map}
use Rattle.std.specs.Prelude.{is_none, Result, Ok}
use Rattle.std.specs.List.{flat_map, filter_map, position}
use Rattle.km_names.specs.Lines.{lines_of}
use Rattle.km_names.specs.Statements.{LinePlace, unless_fault}
use Rattle.symbol_binding.specs.declared.unbound.Unbound.{Unbound}
use Rattle.unmet_file.specs.Line.{line_text, is_line, unmet_line}

-- The text of the file that has these lines: each ends with a line end.
unfoldable pub file_text : List Unbound → List ℕ
file_text lines = flat_map (λ line. line_text line ++ 10 ∷ []) lines

-- The place of the first line of the text that isn't understood, in the file at the path.
unfoldable pub bad_line : List ℕ → List ℕ → Option LinePlace
bad_line file text =
    option_map (λ i. record { file = file; number = i + 1 })
    (position (λ line. is_none (unmet_line line)) (lines_of text))

-- What the lines of the text state, in order.
unfoldable pub stated_lines : List ℕ → List Unbound
stated_lines text = filter_map unmet_line (lines_of text)

-- What a file of this path and text states: its lines, or the place of the first one that isn't
-- understood.
unfoldable pub unmet_of : List ℕ → List ℕ → Result (List Unbound) LinePlace
unmet_of file text = unless_fault (bad_line file text) (stated_lines text)

-- What is written is read back.
abbrev pub AreReadBack : Type 0
AreReadBack =
    (file : List ℕ) (lines : List Unbound) → All (λ line. is_line line ≡ true) lines
    → unmet_of file (file_text lines) ≡ Ok lines

-- A line that is read from a text has visible words, and the text is its own.
abbrev pub IsReadAsWritten : Type 0
IsReadAsWritten =
    (text : List ℕ) (line : Unbound) → unmet_line text ≡ Some line
    → (line_text line ≡ text) × (is_line line ≡ true)
