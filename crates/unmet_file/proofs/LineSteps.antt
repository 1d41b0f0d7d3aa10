-- The lines of a file, one after the other.
use Rattle.std.proofs.Common.{◌≡◌, ℕ, ◌+◌, Bool, List, [], ◌∷◌, Option, Some, None, option_map, Ok}
use Rattle.std.proofs.Common.{refl, sym, ap, ◌∙◌}
use Rattle.std.specs.List.{filter_map}
use Rattle.std.specs.Option.{is_none}
use Rattle.std.specs.Result.{result_err}
use Rattle.km_names.specs.Lines.{lines_of}
use Rattle.km_names.specs.Statements.{LinePlace, line_fault, unless_fault}
use Rattle.km_names.specs.declared.conf.ConfFault.{ConfFault}
use Rattle.km_names.proofs.StatementSteps.{refusal_of}
use Rattle.symbol_binding.specs.declared.unbound.Unbound.{Unbound}
use Rattle.unmet_file.specs.Line.{unmet_line}
use Rattle.unmet_file.specs.Unmet.{bad_line, stated_lines, unmet_of}
use Rattle.unmet_file.proofs.StatedLines.{at_line, place_by, first-place, no-place, place-later}
use Rattle.unmet_file.proofs.StatedLines.{place-here}

-- a line that states nothing
abbrev is_bad : List ℕ → Bool
is_bad line = is_none (unmet_line line)

-- the place of the first of some lines that is refused, of which the first line has a number
abbrev pub place_at : List ℕ → ℕ → List (List ℕ) → Option LinePlace
place_at file number lines = place_by is_bad file number lines

-- the place in a file is that among its lines from 1
pub place-begins : (file text : List ℕ) → place_at file 1 (lines_of text) ≡ bad_line file text
unfolding bad_line
place-begins file text = first-place is_bad file (lines_of text)

-- of no lines none is refused
pub place-none : (file : List ℕ) (number : ℕ) → place_at file number [] ≡ None
place-none file number = no-place is_bad file number

-- a line that states something
pub place-passed : (file : List ℕ) (number : ℕ) (line : List ℕ) (lines : List (List ℕ))
    (x : Unbound)
    → Some x ≡ unmet_line line
    → place_at file number (line ∷ lines) ≡ place_at file (number + 1) lines
place-passed file number line lines x is =
    place-later is_bad file number line lines (ap (λ o. is_none o) (sym is))

-- one that doesn't
pub place-found : (file : List ℕ) (number : ℕ) (line : List ℕ) (lines : List (List ℕ))
    → None ≡ unmet_line line → place_at file number (line ∷ lines) ≡ Some (at_line file number)
place-found file number line lines is =
    place-here is_bad file number line lines (ap (λ o. is_none o) (sym is))

-- what a file states, from its lines on
pub stated-begins : (text : List ℕ) → filter_map unmet_line (lines_of text) ≡ stated_lines text
unfolding stated_lines
stated-begins text = refl

-- a file of which no line is refused
pub all-read : (file text : List ℕ) (lines : List Unbound) → bad_line file text ≡ None
    → stated_lines text ≡ lines → unmet_of file text ≡ Ok lines
unfolding unmet_of
all-read file text lines good is = ap (λ o. unless_fault o (stated_lines text)) good ∙ ap Ok is

-- a file with one
pub one-bad : (file text : List ℕ) (fault : ConfFault)
    → option_map line_fault (bad_line file text) ≡ Some fault
    → option_map line_fault (result_err (unmet_of file text)) ≡ Some fault
unfolding unmet_of
one-bad file text fault is =
    ap (option_map line_fault) (refusal_of (bad_line file text) (stated_lines text)) ∙ is
