-- The bytes of an index, as kmod's depmod writes them. Children come before their parent, in rising
-- order of their bytes, each with all that is below it. kmod's index format 2.1.
use Rattle.std.specs.Prelude.{ℕ, ◌+◌, ◌-◌, ◌==◌, List, [], ◌∷◌, ◌++◌, length, if◌then◌else◌}
use Rattle.std.specs.List.{flat_map}
use Rattle.std.specs.Int.{to_be_bytes, w32}
use Rattle.std.specs.FinMap.{entries}
use Rattle.index_format.specs.Map.{Value, KeyValues}
use Rattle.index_format.specs.Link.{link_to}
use Rattle.index_format.specs.Node.{upward}
use Rattle.index_format.specs.declared.numbers.TheConstants.{MAGIC, VERSION, FIRST_PLACE}
use Rattle.index_format.specs.Tree.{Forest, tree, End, Branch}

-- The bytes that lead to children, each with the offset of its child.
abbrev pub Links : Type 0
Links = List (ℕ × ℕ)

-- A number of four bytes, the highest first.
abbrev pub number : ℕ → List ℕ
number n = to_be_bytes w32 n

-- The offset for a byte, and 0 if no child has it.
abbrev pub offset : Links → ℕ → ℕ
offset [] byte = 0
offset (l ∷ links) byte = if l.0 == byte then l.1 else offset links byte

-- The last byte that leads to a child.
abbrev pub last : ℕ → Links → ℕ
last byte [] = byte
last byte (l ∷ links) = last l.0 links

-- The fields of a node. A field without content is left out.
abbrev pub prefix_field : List ℕ → List ℕ
prefix_field [] = []
prefix_field (byte ∷ prefix) = (byte ∷ prefix) ++ 0 ∷ []

-- The bytes of the first and of the last child, and an offset for each byte from the one to the
-- other.
abbrev pub children_field : Links → List ℕ
children_field [] = []
children_field (l ∷ links) =
    (l.0 ∷ last l.0 links ∷ [])
    ++ flat_map (λ byte. number (offset (l ∷ links) byte)) (upward l.0 (last l.0 links - l.0 + 1))

abbrev pub value_bytes : Value → List ℕ
value_bytes v = number v.0 ++ v.1 ++ 0 ∷ []

abbrev pub values_field : List Value → List ℕ
values_field [] = []
values_field (v ∷ values) = number (length (v ∷ values)) ++ flat_map value_bytes (v ∷ values)

unfoldable pub node_bytes : List ℕ → Links → List Value → List ℕ
node_bytes prefix links values = prefix_field prefix ++ children_field links ++ values_field values

-- The bytes of nodes side by side in the file, and the links to them.
pub record Written : Type 0 where
  pub bytes : List ℕ
  pub links : Links

-- Nodes side by side with all that is below them, written from a place on. First comes what is
-- below the first one, then the first one itself, and then the nodes beside it.
unfoldable pub written : ℕ → Forest → Written
written start End = record { bytes = []; links = [] }
written start (Branch byte prefix values below beside) =
    let under = written start below in
    let at = start + length under.bytes in
    let node = node_bytes prefix under.links values in
    let more = written (at + length node) beside in
    record {
      bytes = under.bytes ++ node ++ more.bytes;
      links = (byte, link_to at prefix under.links values) ∷ more.links;
    }

-- A file: the magic, the version, the offset of the root, and the nodes. The root is the only node
-- of its row.
unfoldable pub file_of : Written → List ℕ
file_of w = number MAGIC ++ number VERSION ++ number (offset w.links 0) ++ w.bytes

-- The file of a map.
unfoldable pub file : KeyValues → List ℕ
file m = file_of (written FIRST_PLACE (tree (entries m)))
