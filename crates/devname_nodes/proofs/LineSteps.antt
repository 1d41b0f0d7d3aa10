-- The lines of a file, one after the other.
use Rattle.std.proofs.Common.{◌≡◌, ℕ, ◌+◌, Bool, true, false, not, ◌&&◌, List, [], ◌∷◌, Option}
use Rattle.std.proofs.Common.{Some, None, option_map, Ok, refl, sym, ap, ◌∙◌}
use Rattle.std.specs.List.{filter_map}
use Rattle.std.specs.Option.{is_none}
use Rattle.std.specs.Result.{result_err}
use Rattle.km_names.specs.Lines.{lines_of}
use Rattle.km_names.specs.Statements.{LinePlace, line_fault, unless_fault}
use Rattle.km_names.specs.declared.conf.ConfFault.{ConfFault}
use Rattle.km_names.proofs.StatementSteps.{refusal_of}
use Rattle.unmet_file.proofs.StatedLines.{at_line, place_by, first-place, no-place, place-later}
use Rattle.unmet_file.proofs.StatedLines.{place-here}
use Rattle.devname_nodes.specs.declared.node.Node.{Node}
use Rattle.devname_nodes.specs.Line.{line_node, is_ignored}
use Rattle.devname_nodes.specs.File.{is_bad, bad_line, stated_nodes, read_of}

-- the place of the first of some lines that is refused, of which the first line has a number
abbrev pub place_at : List ℕ → ℕ → List (List ℕ) → Option LinePlace
place_at file number lines = place_by is_bad file number lines

-- the place in a file is that among its lines from 1
pub place-begins : (file text : List ℕ) → place_at file 1 (lines_of text) ≡ bad_line file text
unfolding bad_line
place-begins file text = first-place is_bad file (lines_of text)

-- of no lines none is refused
pub place-none : (file : List ℕ) (number : ℕ) → place_at file number [] ≡ None
place-none file number = no-place is_bad file number

-- a line that states a node
pub place-passed : (file : List ℕ) (number : ℕ) (line : List ℕ) (lines : List (List ℕ)) (x : Node)
    → Some x ≡ line_node line
    → place_at file number (line ∷ lines) ≡ place_at file (number + 1) lines
place-passed file number line lines x is =
    place-later is_bad file number line lines
    (ap (λ o. is_none o && not (is_ignored line)) (sym is))

never : (b : Bool) → (b && false) ≡ false
never true = refl
never false = refl

-- one that is ignored
pub place-ignored : (file : List ℕ) (number : ℕ) (line : List ℕ) (lines : List (List ℕ))
    → is_ignored line ≡ true
    → place_at file number (line ∷ lines) ≡ place_at file (number + 1) lines
place-ignored file number line lines is =
    place-later is_bad file number line lines
    (ap (λ b. is_none (line_node line) && not b) is ∙ never (is_none (line_node line)))

-- one that is refused
pub place-found : (file : List ℕ) (number : ℕ) (line : List ℕ) (lines : List (List ℕ))
    → None ≡ line_node line → is_ignored line ≡ false
    → place_at file number (line ∷ lines) ≡ Some (at_line file number)
place-found file number line lines is counts =
    place-here is_bad file number line lines
    (ap (λ o. is_none o && not (is_ignored line)) (sym is) ∙ ap not counts)

-- what a file states, from its lines on
pub stated-begins : (text : List ℕ) → filter_map line_node (lines_of text) ≡ stated_nodes text
unfolding stated_nodes
stated-begins text = refl

-- a file of which no line is refused
pub all-read : (file text : List ℕ) (nodes : List Node) → bad_line file text ≡ None
    → stated_nodes text ≡ nodes → read_of file text ≡ Ok nodes
unfolding read_of
all-read file text nodes good is = ap (λ o. unless_fault o (stated_nodes text)) good ∙ ap Ok is

-- a file with one
pub one-bad : (file text : List ℕ) (fault : ConfFault)
    → option_map line_fault (bad_line file text) ≡ Some fault
    → option_map line_fault (result_err (read_of file text)) ≡ Some fault
unfolding read_of
one-bad file text fault is =
    ap (option_map line_fault) (refusal_of (bad_line file text) (stated_nodes text)) ∙ is
