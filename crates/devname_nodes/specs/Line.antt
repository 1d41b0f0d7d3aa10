-- The lines of modules.devname: how a node is written, and what node a line states. kmod's depmod,
-- "devname".
use Rattle.std.specs.Prelude.{◌≡◌, ℕ, ◌<◌, ◌^◌, ◌==◌, Bool, true, false, List, ◌∷◌, ◌++◌, length}
use Rattle.std.specs.Prelude.{drop, Option, Some, None, option_map, option_and_then, if◌then◌else◌}
use Rattle.std.specs.Prelude.{codes, slice_index}
use Rattle.std.specs.Fmt.{decimal}
use Rattle.km_names.specs.Ascii.{is_graphic}
use Rattle.km_names.specs.Space.{trimmed}
use Rattle.unmet_file.specs.Line.{three_text, three_words}
use Rattle.devname_nodes.specs.declared.node.Node.{Node}
use Rattle.devname_nodes.specs.Numbers.{plain_numbers}
use Rattle.devname_nodes.specs.Nodes.{is_comment}

-- The letter of a device's kind: `b` of a block device, and `c` of a character device.
abbrev pub letter : Bool → ℕ
letter block = if block then 98 else 99

-- The text of a node's line, without its line end: `MODULE DEVICE TM:N`.
unfoldable pub node_line : Node → List ℕ
node_line n =
    three_text n.module n.device
    (letter n.block ∷ (decimal n.major ++ (codes ":" ++ decimal n.minor)))

-- The kind of device that a letter means, if it is one of the two.
abbrev pub kind_of : ℕ → Option Bool
kind_of b = if b == 98 then Some true else if b == 99 then Some false else None

-- The kind and the numbers of the last word of a line.
abbrev pub device_word : List ℕ → Option (Bool × (ℕ × ℕ))
device_word text =
    option_and_then (λ block. option_map (λ n. (block, n)) (plain_numbers (drop 1 text)))
    (kind_of (slice_index text 0))

-- The node of the three words of a line; the first one doesn't begin as a comment.
abbrev pub node_of_words : List ℕ × List ℕ × List ℕ → Option Node
node_of_words w =
    if is_comment w.0 then None
    else option_map
    (λ k. record { «module» = w.0; device = w.1; block = k.0; major = k.1.0; minor = k.1.1 })
    (device_word w.2)

-- The node that a line states, if it states one.
unfoldable pub line_node : List ℕ → Option Node
line_node line = option_and_then node_of_words (three_words line)

-- Whether a line is ignored: it is blank, or a comment.
abbrev pub is_ignored : List ℕ → Bool
is_ignored line = if is_comment line then true else length (trimmed line) == 0

-- A node that can be read back from its line.
pub record IsNode (n : Node) : Type 0 where
  pub «module» : is_graphic n.module ≡ true
  pub plain : is_comment n.module ≡ false
  pub device : is_graphic n.device ≡ true
  pub major : n.major < 2 ^ 32
  pub minor : n.minor < 2 ^ 32
