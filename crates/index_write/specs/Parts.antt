-- The nodes of a file one after the other, as they are written: each finds the links to its
-- children at the end of the waiting links.
-- It belongs to the code: no public meaning rests on it.
use Rattle.std.specs.Prelude.{ℕ, ◌+◌, ◌-◌, ◌*◌, ◌==◌, List, [], ◌∷◌, ◌++◌, length, take, drop}
use Rattle.std.specs.Prelude.{sum_by, flat_map, if◌then◌else◌}
use Rattle.index_format.specs.declared.numbers.TheConstants.{FIRST_PLACE, MAGIC, VERSION}
use Rattle.index_format.specs.Map.{Value}
use Rattle.index_format.specs.Link.{link_to}
use Rattle.index_format.specs.Tree.{Forest, End, Branch}
use Rattle.index_format.specs.Node.{upward}
use Rattle.index_format.specs.File.{Written, Links, number, offset, node_bytes}
use Rattle.index_write.specs.declared.node.Span.{Span}

-- A node without its children. It has the range of bytes that lead to them.
pub record Part : Type 0 where
  pub byte : ℕ
  pub prefix : List ℕ
  pub values : List Value
  pub children : Span

-- The bytes that lead to nodes side by side.
abbrev pub bytes_of : Forest → List ℕ
bytes_of End = []
bytes_of (Branch byte prefix values below beside) = byte ∷ bytes_of beside

-- The last one of some bytes.
abbrev pub last_of : ℕ → List ℕ → ℕ
last_of byte [] = byte
last_of byte (b ∷ bytes) = last_of b bytes

-- The range of some bytes.
abbrev pub span_of : List ℕ → Span
span_of [] = record { first = 0; last = 0; count = 0 }
span_of (byte ∷ bytes) =
    record { first = byte; last = last_of byte bytes; count = length (byte ∷ bytes) }

-- The nodes in the order of the file.
abbrev pub parts_of : Forest → List Part
parts_of End = []
parts_of (Branch byte prefix values below beside) =
    parts_of below
    ++ (record {
      byte = byte;
      prefix = prefix;
      values = values;
      children = span_of (bytes_of below);
    })
    ∷ parts_of beside

-- What is written after one more node, and after more nodes. The links are the waiting ones.
unfoldable pub with_part : Part → Written → Written
with_part p w =
    let rest = length w.links - p.children.count in
    record {
      bytes = w.bytes ++ node_bytes p.prefix (drop rest w.links) p.values;
      links
          = take rest w.links
          ++ (p.byte, link_to (length w.bytes) p.prefix (drop rest w.links) p.values) ∷ [];
    }

unfoldable pub with_parts : List Part → Written → Written
with_parts [] w = w
with_parts (p ∷ ps) w = with_parts ps (with_part p w)

-- The size of a node in bytes.
abbrev pub prefix_size : List ℕ → ℕ
prefix_size [] = 0
prefix_size (byte ∷ prefix) = length (byte ∷ prefix) + 1

abbrev pub span_size : Span → ℕ
span_size s = if s.count == 0 then 0 else 2 + 4 * (s.last - s.first + 1)

abbrev pub value_size : Value → ℕ
value_size v = 4 + length v.1 + 1

abbrev pub values_size : List Value → ℕ
values_size [] = 0
values_size (v ∷ values) = 4 + sum_by value_size (v ∷ values)

abbrev pub part_size : Part → ℕ
part_size p = prefix_size p.prefix + span_size p.children + values_size p.values

-- The bytes before the nodes, with 0 for the offset of the root, and the whole file with that
-- offset.
abbrev pub headed : Written
headed = record { bytes = number MAGIC ++ number VERSION ++ number 0; links = [] }

abbrev pub rooted : Written → List ℕ
rooted w = take 8 w.bytes ++ number (offset w.links 0) ++ drop FIRST_PLACE w.bytes

-- The offsets of children for this many bytes.
abbrev pub offsets_bytes : Links → ℕ → ℕ → List ℕ
offsets_bytes links first count = flat_map (λ byte. number (offset links byte)) (upward first count)
