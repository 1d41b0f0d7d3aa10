-- The nodes of an index, each with the key that leads to it, in the order of their keys. After a
-- node come the ones below it, by rising bytes, each with all that is below it.
use Rattle.std.specs.Prelude.{ℕ, zero, suc, ◌+◌, ◌-◌, ◌≤◌, List, [], ◌∷◌, ◌++◌, length, flat_map}
use Rattle.std.specs.Prelude.{Option, Some, None}
use Rattle.std.specs.List.{cons_option, AllByRecursion}
use Rattle.index_format.specs.Link.{place_of}
use Rattle.index_format.specs.Node.{root, prefix, child}
use Rattle.index_nodes.specs.Fields.{link_of, IsNodeOf}
use Rattle.index_read.specs.declared.walk.Level.{Level}

-- A node with its key.
abbrev pub Item : Type 0
Item = List ℕ × ℕ

-- The nodes that a child leads to, if there is one.
abbrev pub on_child : Option ℕ → (ℕ → List Item) → List Item
on_child None under = []
on_child (Some next) under = under next

-- The nodes below a node with this key, by this many bytes from one on. `under` gives the nodes
-- that a child leads to, by its offset and by the key with its byte.
unfoldable pub branches : (ℕ → List ℕ → List Item) → List ℕ → ℕ → List ℕ → ℕ → ℕ → List Item
branches under b link key byte zero = []
branches under b link key byte (suc n) =
    on_child (child b link byte) (λ next. under next (key ++ byte ∷ []))
    ++ branches under b link key (byte + 1) n

-- The number of bytes that may lead to a child.
abbrev pub key_bytes : ℕ
key_bytes = 128

-- A node and the ones below it, down to a depth. Children are below their parent in the file, so
-- the place of a node is enough depth for what is below it.
unfoldable pub items : List ℕ → ℕ → ℕ → List ℕ → List Item
items b zero link key = []
items b (suc depth) link key =
    let whole = key ++ prefix b link in
    (whole, link) ∷ branches (items b depth) b link whole 0 key_bytes

-- All nodes.
abbrev pub all_items : List ℕ → List Item
all_items b = items b (length b + 1) (root b) []

-- The bytes by which the key of a level goes on from that of the level before it: the byte that
-- leads to its node, if one does, and the node's prefix.
abbrev pub piece : List ℕ → Level → List ℕ
piece b l = cons_option l.byte (prefix b (link_of l.node))

-- The key of the last of some levels.
abbrev pub key_of : List ℕ → List Level → List ℕ
key_of b ls = flat_map (piece b) ls

-- The nodes still to come on a level of this key: the ones below the bytes from its next one on.
abbrev pub level_items : List ℕ → List ℕ → Level → List Item
level_items b key l =
    branches (items b (place_of (link_of l.node))) b (link_of l.node) key l.next
    (key_bytes - l.next)

-- The nodes still to come on levels that go on from a key, the last level's first.
abbrev pub items_left : List ℕ → List ℕ → List Level → List Item
items_left b key [] = []
items_left b key (l ∷ ls) = items_left b (key ++ piece b l) ls ++ level_items b (key ++ piece b l) l

-- A level of the file, whose next byte may lead to a child.
pub record IsLevel (b : List ℕ) (l : Level) : Type 0 where
  pub node : IsNodeOf b l.node
  pub next : l.next ≤ key_bytes

-- Each level is one.
abbrev pub AreLevels : List ℕ → List Level → Type 0
AreLevels b ls = AllByRecursion (IsLevel b) ls
