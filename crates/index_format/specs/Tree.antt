-- The tree of an index, as kmod's depmod writes it: each node except the root has the longest
-- prefix that is common to all keys below it.
use Rattle.std.specs.Prelude.{◌≡◌, ℕ, zero, suc, ◌==◌, List, [], ◌∷◌, length, drop, map, max}
use Rattle.std.specs.Prelude.{if◌then◌else◌}
use Rattle.std.specs.Ordering.{nat_cmp}
use Rattle.std.specs.Cmp.Lexicographic.{slice_cmp}
use Rattle.std.specs.declared.cmp.Ordering.TheVariants.{Less}
use Rattle.index_format.specs.Map.{Value}

-- A key, or what is left of it below a node, with its values.
abbrev pub Entry : Type 0
Entry = List ℕ × List Value

-- Nodes side by side: the first one, with the byte that leads to it, its prefix, its values and the
-- nodes below it, and then the nodes beside it.
pub data Forest : Type 0 where
  End : Forest
  Branch : (byte : ℕ) (prefix : List ℕ) (values : List Value) (below : Forest) (beside : Forest)
      → Forest

-- The common front of two keys.
abbrev pub common : List ℕ → List ℕ → List ℕ
common [] ys = []
common (x ∷ xs) [] = []
common (x ∷ xs) (y ∷ ys) = if x == y then x ∷ common xs ys else []

-- The common front of a prefix and the keys of all entries.
abbrev pub narrowed : List ℕ → List Entry → List ℕ
narrowed prefix [] = prefix
narrowed prefix (e ∷ es) = narrowed (common prefix e.0) es

-- The longest prefix that is common to all keys.
abbrev pub common_prefix : List Entry → List ℕ
common_prefix [] = []
common_prefix (e ∷ es) = narrowed e.0 es

-- The entries with this many bytes removed from the front of each key.
abbrev pub cut : ℕ → List Entry → List Entry
cut n es = map (λ e. (drop n e.0, e.1)) es

-- The values of the key that ends here. It is the first one, since the entries are in the order of
-- their keys.
abbrev pub ending : List Entry → List Value
ending [] = []
ending (([], values) ∷ es) = values
ending ((byte ∷ key, values) ∷ es) = []

-- The groups with one more entry in front: in the first group, if that is for the same byte, and
-- otherwise in a group of its own.
abbrev pub grouped : ℕ → Entry → List (ℕ × List Entry) → List (ℕ × List Entry)
grouped byte e [] = (byte, e ∷ []) ∷ []
grouped byte e ((c, es) ∷ groups) =
    if byte == c then (c, e ∷ es) ∷ groups else (byte, e ∷ []) ∷ (c, es) ∷ groups

-- The entries whose key doesn't end here, grouped by the next byte of the key, which is removed.
-- The entries are in the order of their keys, so the ones with the same byte are neighbors.
abbrev pub groups : List Entry → List (ℕ × List Entry)
groups [] = []
groups (([], values) ∷ es) = groups es
groups ((byte ∷ key, values) ∷ es) = grouped byte (key, values) (groups es)

-- A node for each group. `below` gives the nodes below a node, by the entries with its prefix
-- removed.
abbrev pub siblings : (List Entry → Forest) → List (ℕ × List Entry) → Forest
siblings below [] = End
siblings below ((byte, es) ∷ more) =
    let prefix = common_prefix es in
    let rest = cut (length prefix) es in
    Branch byte prefix (ending rest) (below rest) (siblings below more)

-- The nodes below a node, by the entries with its prefix removed, down to a depth.
unfoldable pub nodes_below : ℕ → List Entry → Forest
nodes_below zero es = End
nodes_below (suc depth) es = siblings (nodes_below depth) (groups es)

-- The length of the longest key in bytes. No node is deeper, since each takes a byte of the keys
-- below it.
abbrev pub longest : List Entry → ℕ
longest [] = 0
longest (e ∷ es) = max (length e.0) (longest es)

-- The root, with an empty prefix. No byte leads to it.
unfoldable pub tree : List Entry → Forest
tree es = Branch 0 [] (ending es) (nodes_below (longest es) es) End

-- The keys of the entries rise, each above all before it, as in a map.
abbrev pub Above : List ℕ → List Entry → Type 0
Above key [] = Unit {0}
Above key (e ∷ es) = (slice_cmp nat_cmp key e.0 ≡ Less) × Above key es

abbrev pub Rises : List Entry → Type 0
Rises [] = Unit {0}
Rises (e ∷ es) = Above e.0 es × Rises es
