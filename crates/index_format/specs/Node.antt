-- The fields of a node, in their order: a prefix that ends in a NUL, the children, the values. A
-- field is present if its flag is set in the offset that leads to the node. kmod's index format
-- 2.1, "node".
use Rattle.std.specs.Prelude.{ℕ, zero, suc, ◌+◌, ◌*◌, ◌-◌, ◌==◌, nat_le, Bool, ◌&&◌, List, [], ◌∷◌}
use Rattle.std.specs.Prelude.{drop, slice_index, Option, Some, None, if◌then◌else◌}
use Rattle.std.specs.List.{before_first, after_first, filter_map}
use Rattle.km_names.specs.Number.{be}
use Rattle.index_format.specs.Map.{Value}
use Rattle.index_format.specs.Link.{place_of, has_prefix, has_values, has_children}

abbrev pub is_nul : ℕ → Bool
is_nul byte = byte == 0

-- The offset of the root: the third number of the file.
unfoldable pub root : List ℕ → ℕ
root b = be b 8 4

-- The bytes before the first NUL and those after it.
abbrev pub text : List ℕ → List ℕ
text bytes = before_first is_nul bytes

abbrev pub after_text : List ℕ → List ℕ
after_text bytes = after_first is_nul bytes

-- The prefix of the node that an offset leads to. It is empty if the node has none.
unfoldable pub prefix : List ℕ → ℕ → List ℕ
prefix b link = if has_prefix link then text (drop (place_of link) b) else []

-- The bytes after the prefix.
unfoldable pub after_prefix : List ℕ → ℕ → List ℕ
after_prefix b link =
    if has_prefix link then after_text (drop (place_of link) b) else drop (place_of link) b

-- The range of bytes that a node with children has offsets for: its first and its last byte.
unfoldable pub first_byte : List ℕ → ℕ → ℕ
first_byte b link = slice_index (after_prefix b link) 0

unfoldable pub last_byte : List ℕ → ℕ → ℕ
last_byte b link = slice_index (after_prefix b link) 1

-- The size of the range and its offsets in bytes.
unfoldable pub children_size : List ℕ → ℕ → ℕ
children_size b link = 2 + 4 * (last_byte b link - first_byte b link + 1)

-- An offset to the place 0 leads to no node.
abbrev pub present : ℕ → Option ℕ
present link = if place_of link == 0 then None else Some link

-- The offset of the child for a byte, if there is such a child.
unfoldable pub child : List ℕ → ℕ → ℕ → Option ℕ
child b link byte =
    if has_children link && (nat_le (first_byte b link) byte && nat_le byte (last_byte b link))
    then present (be (after_prefix b link) (2 + 4 * (byte - first_byte b link)) 4)
    else None

-- The numbers from start on, this many of them.
abbrev pub upward : ℕ → ℕ → List ℕ
upward start zero = []
upward start (suc n) = start ∷ upward (start + 1) n

-- The offsets of the node's children, in rising order of their bytes.
unfoldable pub children : List ℕ → ℕ → List ℕ
children b link =
    filter_map (child b link)
    (upward (first_byte b link) (last_byte b link - first_byte b link + 1))

-- The bytes after the children.
unfoldable pub after_children : List ℕ → ℕ → List ℕ
after_children b link =
    if has_children link
    then drop (children_size b link) (after_prefix b link)
    else after_prefix b link

-- This many values from the front of the bytes. Each has a priority of four bytes, and a text with
-- its NUL.
unfoldable pub values_in : ℕ → List ℕ → List Value
values_in zero bytes = []
values_in (suc n) bytes =
    (be bytes 0 4, text (drop 4 bytes)) ∷ values_in n (after_text (drop 4 bytes))

-- The values of the node: a count of four bytes, and that many values.
unfoldable pub values : List ℕ → ℕ → List Value
values b link =
    if has_values link
    then values_in (be (after_children b link) 0 4) (drop 4 (after_children b link))
    else []
