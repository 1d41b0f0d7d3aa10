-- What a reader refuses: the first test that fails, in the order the nodes are visited in. The root
-- is visited first. After a node come its children, in rising order of their bytes, each with all
-- that is below it before the next. kmod's index format 2.1.
use Rattle.std.specs.Prelude.{ℕ, zero, suc, ◌+◌, ◌==◌, nat_eq, nat_lt, nat_le, Bool, true, false}
use Rattle.std.specs.Prelude.{not, ◌&&◌, ◌||◌, List, [], ◌∷◌, length, drop, Option, Some, None}
use Rattle.std.specs.Prelude.{if◌then◌else◌}
use Rattle.std.specs.List.{list_any, flat_map}
use Rattle.km_names.specs.First.{first}
use Rattle.km_names.specs.Number.{be}
use Rattle.index_format.specs.declared.numbers.TheConstants.{MAGIC, VERSION, FIRST_PLACE}
use Rattle.index_format.specs.Link.{place_of, has_prefix, has_values, has_children}
use Rattle.index_format.specs.Node.{is_nul, root, after_text, after_prefix, first_byte, last_byte}
use Rattle.index_format.specs.Node.{children_size, children, after_children}

-- Why a file is refused. A node is named by its place in the file.
pub data Fault : Type 0 where
  BadMagic : Fault
  BadVersion : Fault
  BadNode : ℕ → Fault
  Revisited : ℕ → Fault

abbrev pub has_nul : List ℕ → Bool
has_nul bytes = list_any is_nul bytes

-- Whether a prefix with its NUL is whole.
unfoldable pub prefix_fits : List ℕ → ℕ → Bool
prefix_fits b link = not (has_prefix link) || has_nul (drop (place_of link) b)

-- Whether the range is of bytes from 1 to 127 and is in the file with all its offsets.
unfoldable pub children_fit : List ℕ → ℕ → Bool
children_fit b link =
    not (has_children link)
    || (nat_le 2 (length (after_prefix b link))
    && (nat_lt 0 (first_byte b link)
    && nat_le (first_byte b link) (last_byte b link)
    && nat_le (last_byte b link) 127
    && nat_le (children_size b link) (length (after_prefix b link))))

-- Whether this many values are whole.
unfoldable pub whole_values : ℕ → List ℕ → Bool
whole_values zero bytes = true
whole_values (suc n) bytes =
    nat_le 4 (length bytes)
    && (has_nul (drop 4 bytes) && whole_values n (after_text (drop 4 bytes)))

-- Whether the count of values and each of them is whole.
unfoldable pub values_fit : List ℕ → ℕ → Bool
values_fit b link =
    not (has_values link)
    || (nat_le 4 (length (after_children b link))
    && whole_values (be (after_children b link) 0 4) (drop 4 (after_children b link)))

-- A visit to a node by its offset. The node must be below the place `above`, which is its parent's.
pub record Arrival : Type 0 where
  pub above : ℕ
  pub is_root : Bool
  pub link : ℕ

-- Whether the node is in the file, each of its fields is whole, and it has one, as each node except
-- the root must.
unfoldable pub is_sound : List ℕ → Arrival → Bool
is_sound b a =
    nat_le FIRST_PLACE (place_of a.link) && nat_le (place_of a.link) (length b)
    && (prefix_fits b a.link && (children_fit b a.link && values_fit b a.link))
    && (a.is_root || (has_prefix a.link || (has_values a.link || has_children a.link)))

-- The tests of a visit. The nodes at the places `seen` were visited before.
unfoldable pub arrival_fault : List ℕ → List ℕ → Arrival → Option Fault
arrival_fault b seen a =
    if not (nat_lt (place_of a.link) a.above) then Some (BadNode (place_of a.link))
    else (if list_any (nat_eq (place_of a.link)) seen then Some (Revisited (place_of a.link))
    else (if is_sound b a then None else Some (BadNode (place_of a.link))))

-- The tests of each visit, with the places of the visits before it.
unfoldable pub arrival_faults : List ℕ → List ℕ → List Arrival → List (Option Fault)
arrival_faults b seen [] = []
arrival_faults b seen (a ∷ rest) =
    arrival_fault b seen a ∷ arrival_faults b (place_of a.link ∷ seen) rest

-- The visits to a node and to all nodes below it, in the reader's order, down to a depth. There are
-- none below a node that isn't below the one before it, since the reader stops there. So the places
-- fall on each way down, and a depth of the first node's place is enough.
unfoldable pub arrivals : List ℕ → ℕ → Arrival → List Arrival
arrivals b zero a = a ∷ []
arrivals b (suc depth) a =
    a ∷ (if nat_lt (place_of a.link) a.above
    then flat_map
    (λ link. arrivals b depth
    (record { above = place_of a.link; is_root = false; link = link })) (children b a.link)
    else [])

-- The visit to the root, which may be anywhere in the file.
abbrev pub root_arrival : List ℕ → Arrival
root_arrival b = record { above = length b + 1; is_root = true; link = root b }

-- The fault that a reader finds, if any. Past the end of a short file bytes count as 0, and neither
-- the magic nor the version ends in one. The offset of the root is at 8.
unfoldable pub index_fault : List ℕ → Option Fault
index_fault b =
    first ((if be b 0 4 == MAGIC then None else Some BadMagic)
    ∷ (if be b 4 4 == VERSION then None else Some BadVersion)
    ∷ (if nat_lt (length b) FIRST_PLACE then Some (BadNode 8) else None)
    ∷ arrival_faults b [] (arrivals b (length b + 1) (root_arrival b)))
