-- The file modules.devname: its text, and what is read from one. kmod's depmod, "devname".
use Rattle.std.specs.Prelude.{◌≡◌, ℕ, ◌+◌, ◌&&◌, not, Bool, true, All, List, [], ◌∷◌, ◌++◌, Option}
use Rattle.std.specs.Prelude.{option_map, is_none, Result, Ok, codes}
use Rattle.std.specs.List.{flat_map, filter_map, position}
use Rattle.km_names.specs.Ascii.{is_graphic}
use Rattle.km_names.specs.Lines.{lines_of}
use Rattle.km_names.specs.Statements.{LinePlace, unless_fault}
use Rattle.module_facts.specs.declared.facts.Facts.{Facts}
use Rattle.devname_nodes.specs.declared.node.Node.{Node}
use Rattle.devname_nodes.specs.Line.{node_line, line_node, is_ignored}
use Rattle.devname_nodes.specs.Nodes.{nodes_of}

-- The heading of the file.
abbrev pub heading : List ℕ
heading = codes "# Device nodes to trigger on-demand module loading."

-- The lines of nodes, each with its line end.
abbrev pub node_lines : List Node → List ℕ
node_lines nodes = flat_map (λ n. node_line n ++ 10 ∷ []) nodes

-- The text of the file with these nodes: the heading, and a line for each.
unfoldable pub nodes_text : List Node → List ℕ
nodes_text nodes = heading ++ 10 ∷ node_lines nodes

-- Whether a line is refused: it states no node, and isn't ignored.
abbrev pub is_bad : List ℕ → Bool
is_bad line = is_none (line_node line) && not (is_ignored line)

-- The place of the first line of the text that is refused, in the file at the path.
unfoldable pub bad_line : List ℕ → List ℕ → Option LinePlace
bad_line file text =
    option_map (λ i. record { file = file; number = i + 1 }) (position is_bad (lines_of text))

-- The nodes that the lines of a text state, in order.
unfoldable pub stated_nodes : List ℕ → List Node
stated_nodes text = filter_map line_node (lines_of text)

-- What a file of this path and text states: its nodes, or the place of the first line that is
-- refused.
unfoldable pub read_of : List ℕ → List ℕ → Result (List Node) LinePlace
read_of file text = unless_fault (bad_line file text) (stated_nodes text)

-- What is written of a tree whose modules have words of visible characters for names is read back.
abbrev pub AreReadBack : Type 0
AreReadBack =
    (file : List ℕ) (tree : List Facts) → All (λ (f : Facts). is_graphic f.name ≡ true) tree
    → read_of file (nodes_text (nodes_of tree)) ≡ Ok (nodes_of tree)
