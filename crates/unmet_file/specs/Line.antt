-- The lines of modules.unmet: what each states, and how it is written. This file of depmod is this
-- project's own. depmod(8) warns of missing symbols and other versions with `-e`.
use Rattle.std.specs.Prelude.{ℕ, ◌&&◌, Bool, List, [], ◌∷◌, ◌++◌, codes, Option, Some, None}
use Rattle.std.specs.Prelude.{option_map, if◌then◌else◌}
use Rattle.std.specs.List.{list_all}
use Rattle.std.specs.Str.{bytes_eq}
use Rattle.km_names.specs.Ascii.{is_graphic}
use Rattle.km_names.specs.Space.{before_space, past_space}
use Rattle.symbol_binding.specs.declared.unbound.Unbound.{Unbound}
use Rattle.symbol_binding.specs.declared.unbound.Unbound.TheVariants.{Missing, Gpl, Version}
use Rattle.symbol_binding.specs.declared.unbound.Unbound.TheVariants.{Namespace, Double}
use Rattle.unmet_file.specs.declared.kind.LineKind.{LineKind}
use Rattle.unmet_file.specs.declared.kind.LineKind.TheVariants as kinds

-- The first word of a line of a kind. All writers, readers and printers of such lines cite it.
abbrev pub first_word : LineKind → List ℕ
first_word kinds.Missing = codes "missing"
first_word kinds.Gpl = codes "gpl"
first_word kinds.Version = codes "version"
first_word kinds.Namespace = codes "namespace"
first_word kinds.Double = codes "double"

-- Two words with a space between.
abbrev pub two_text : List ℕ → List ℕ → List ℕ
two_text first second = first ++ (codes " " ++ second)

-- Three words with a space between.
abbrev pub three_text : List ℕ → List ℕ → List ℕ → List ℕ
three_text first second third = two_text first (two_text second third)

-- The text of a line, without its line end: its first word says its kind, and names follow.
unfoldable pub line_text : Unbound → List ℕ
line_text (Missing path symbol) = two_text (first_word kinds.Missing) (two_text path symbol)
line_text (Gpl path symbol provider) =
    two_text (first_word kinds.Gpl) (three_text path symbol provider)
line_text (Version path symbol provider) =
    two_text (first_word kinds.Version) (three_text path symbol provider)
line_text (Namespace path symbol provider) =
    two_text (first_word kinds.Namespace) (three_text path symbol provider)
line_text (Double symbol first second) =
    two_text (first_word kinds.Double) (three_text symbol first second)

-- The names in a line.
abbrev pub names_in : Unbound → List (List ℕ)
names_in (Missing path symbol) = path ∷ symbol ∷ []
names_in (Gpl path symbol provider) = path ∷ symbol ∷ provider ∷ []
names_in (Version path symbol provider) = path ∷ symbol ∷ provider ∷ []
names_in (Namespace path symbol provider) = path ∷ symbol ∷ provider ∷ []
names_in (Double symbol first second) = symbol ∷ first ∷ second ∷ []

-- Whether the line can be read back from its text: its names are words of visible characters.
unfoldable pub is_line : Unbound → Bool
is_line line = list_all is_graphic (names_in line)

-- The two words of a text of visible characters with a space between.
abbrev pub two_words : List ℕ → Option (List ℕ × List ℕ)
two_words text =
    if is_graphic (before_space text) && is_graphic (past_space text)
    then Some (before_space text, past_space text) else None

-- The three words of such a text.
abbrev pub three_words : List ℕ → Option (List ℕ × List ℕ × List ℕ)
three_words text =
    if is_graphic (before_space text)
    then option_map (λ w. (before_space text, w.0, w.1)) (two_words (past_space text))
    else None

-- What a line states, if it is one: its first word, and the words after it.
unfoldable pub unmet_line : List ℕ → Option Unbound
unmet_line text =
    if bytes_eq (before_space text) (first_word kinds.Missing)
    then option_map (λ w. Missing w.0 w.1) (two_words (past_space text))
    else if bytes_eq (before_space text) (first_word kinds.Gpl)
    then option_map (λ w. Gpl w.0 w.1 w.2) (three_words (past_space text))
    else if bytes_eq (before_space text) (first_word kinds.Version)
    then option_map (λ w. Version w.0 w.1 w.2) (three_words (past_space text))
    else if bytes_eq (before_space text) (first_word kinds.Namespace)
    then option_map (λ w. Namespace w.0 w.1 w.2) (three_words (past_space text))
    else if bytes_eq (before_space text) (first_word kinds.Double)
    then option_map (λ w. Double w.0 w.1 w.2) (three_words (past_space text))
    else None
