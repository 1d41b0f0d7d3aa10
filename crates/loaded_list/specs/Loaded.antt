-- The list of loaded modules, in the form of /proc/modules. proc(5).
use Rattle.std.specs.Prelude.{ℕ, ◌==◌, List, [], ◌∷◌, length, if◌then◌else◌}
use Rattle.std.specs.List.{flat_map}
use Rattle.km_names.specs.Lines.{lines_of}
use Rattle.km_names.specs.Space.{trimmed, first_word}

-- The name that a line begins with: its first word. A blank line, with only white space, has none.
abbrev pub name_if_any : List ℕ → List (List ℕ)
name_if_any line = let text = trimmed line in if length text == 0 then [] else first_word text ∷ []

-- The names that a text lists, in the order of its lines. The newest module is first.
unfoldable pub loaded_of : List ℕ → List (List ℕ)
loaded_of text = flat_map name_if_any (lines_of text)
