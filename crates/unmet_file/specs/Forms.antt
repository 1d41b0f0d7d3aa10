-- The form of a line, and what a line of each form states.
-- It belongs to the code: no public meaning rests on it.
use Rattle.std.specs.Prelude.{ℕ, List, Option, Some, None, option_map, if◌then◌else◌}
use Rattle.std.specs.Str.{bytes_eq}
use Rattle.symbol_binding.specs.declared.unbound.Unbound.{Unbound}
use Rattle.symbol_binding.specs.declared.unbound.Unbound.TheVariants as unbound
use Rattle.unmet_file.specs.declared.line.Form.{Form}
use Rattle.unmet_file.specs.declared.line.Form.TheVariants.{Missing, Provided, Double}
use Rattle.unmet_file.specs.declared.line.ProvidedKind.{ProvidedKind}
use Rattle.unmet_file.specs.declared.line.ProvidedKind.TheVariants.{Gpl, Version, Namespace}
use Rattle.unmet_file.specs.declared.kind.LineKind.TheVariants as kinds
use Rattle.unmet_file.specs.Line.{first_word, two_words, three_words}

-- The form whose first word this is.
unfoldable pub form_named : List ℕ → Option Form
form_named word =
    if bytes_eq word (first_word kinds.Missing) then Some Missing
    else if bytes_eq word (first_word kinds.Gpl) then Some (Provided Gpl)
    else if bytes_eq word (first_word kinds.Version) then Some (Provided Version)
    else if bytes_eq word (first_word kinds.Namespace) then Some (Provided Namespace)
    else if bytes_eq word (first_word kinds.Double) then Some Double
    else None

-- What the words after the first state.
abbrev pub missing_of : List ℕ → Option Unbound
missing_of words = option_map (λ w. unbound.Missing w.0 w.1) (two_words words)

abbrev pub double_of : List ℕ → Option Unbound
double_of words = option_map (λ w. unbound.Double w.0 w.1 w.2) (three_words words)

abbrev pub line_of_kind : ProvidedKind → List ℕ → List ℕ → List ℕ → Unbound
line_of_kind Gpl path symbol provider = unbound.Gpl path symbol provider
line_of_kind Version path symbol provider = unbound.Version path symbol provider
line_of_kind Namespace path symbol provider = unbound.Namespace path symbol provider

abbrev pub provided_of : ProvidedKind → List ℕ → Option Unbound
provided_of kind words = option_map (λ w. line_of_kind kind w.0 w.1 w.2) (three_words words)

-- What the words after the first state in a line of this form.
abbrev pub stated : Form → List ℕ → Option Unbound
stated Missing words = missing_of words
stated (Provided kind) words = provided_of kind words
stated Double words = double_of words
