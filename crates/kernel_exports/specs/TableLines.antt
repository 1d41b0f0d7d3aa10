-- The text tables that a kernel's build writes, line by line. Each line states something, is blank,
-- or isn't understood.
use Rattle.std.specs.Prelude.{ℕ, ◌+◌, ◌&&◌, not, Bool, List, Option, is_none, option_map}
use Rattle.std.specs.List.{list_all, position, filter_map}
use Rattle.km_names.specs.Lines.{lines_of}
use Rattle.km_names.specs.Space.{is_space}

-- Whether a line is blank: it has only white space.
abbrev pub is_blank : List ℕ → Bool
is_blank line = list_all is_space line

-- Whether a line is refused: it isn't blank, and isn't understood.
abbrev pub is_refused : {X : Type 0} → (List ℕ → Option X) → List ℕ → Bool
is_refused read line = not (is_blank line) && is_none (read line)

-- The number of the first line that is refused, counted from 1.
abbrev pub first_refused : {X : Type 0} → (List ℕ → Option X) → List (List ℕ) → Option ℕ
first_refused read lines = option_map (λ i. i + 1) (position (is_refused read) lines)

-- The number of the first line of a table that is refused.
unfoldable pub refused_line : {X : Type 0} → (List ℕ → Option X) → List ℕ → Option ℕ
refused_line read bytes = first_refused read (lines_of bytes)

-- What the lines of a table state, in order.
unfoldable pub stated : {X : Type 0} → (List ℕ → Option X) → List ℕ → List X
stated read bytes = filter_map read (lines_of bytes)
