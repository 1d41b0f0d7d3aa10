-- The entries, groups and nodes of the writer, as the tree of an index has them.
-- It belongs to the code: no public meaning rests on it.
use Rattle.std.specs.Prelude.{ℕ, suc, ◌<◌, ◌==◌, List, [], ◌∷◌, length, map, if◌then◌else◌}
use Rattle.std.specs.List.{AllByRecursion}
use Rattle.index_format.specs.Tree.{Entry, common_prefix, cut, ending, groups}
use Rattle.index_write.specs.declared.node.KeyEntry.{KeyEntry}
use Rattle.index_write.specs.declared.node.Group.{Group}
use Rattle.index_write.specs.declared.node.TreeNode.{TreeNode}
use Rattle.index_write.specs.Lists.{shown_values}
use Rattle.index_write.specs.Parts.{Part, span_of}

abbrev pub entry_shown : KeyEntry → Entry
entry_shown e = (e.key.now, shown_values e.values.now)

-- The entries, and what is left of them at a depth.
abbrev pub entries_shown : List KeyEntry → List Entry
entries_shown es = map entry_shown es

abbrev pub at_depth : ℕ → List KeyEntry → List Entry
at_depth depth es = cut depth (entries_shown es)

-- A group as the tree has it.
abbrev pub group_of : Group → ℕ × List Entry
group_of g = (g.byte, at_depth g.depth g.entries.now)

abbrev pub groups_of : List Group → List (ℕ × List Entry)
groups_of gs = map group_of gs

-- The number of entries that end here. Only the first one may.
abbrev pub ended : List Entry → ℕ
ended [] = 0
ended (([], values) ∷ es) = 1
ended ((c ∷ key, values) ∷ es) = 0

-- Each key continues.
abbrev pub AllGoOn : List Entry → Type 0
AllGoOn es = AllByRecursion (λ e. 0 < length e.0) es

-- The number of entries at the front whose keys continue with a byte.
abbrev pub leading : ℕ → List Entry → ℕ
leading byte [] = 0
leading byte (([], values) ∷ es) = 0
leading byte ((c ∷ key, values) ∷ es) = if byte == c then suc (leading byte es) else 0

abbrev pub part_of : TreeNode → Part
part_of n =
    record {
      byte = n.byte;
      prefix = n.prefix.now;
      values = shown_values n.values.now;
      children = n.children;
    }

-- The entries of a group with the prefix of its node removed, and that node.
abbrev pub below : List Entry → List Entry
below es = cut (length (common_prefix es)) es

abbrev pub part_for : ℕ → List Entry → Part
part_for byte es =
    record {
      byte = byte;
      prefix = common_prefix es;
      values = ending (below es);
      children = span_of (map (λ g. g.0) (groups (below es)));
    }

-- The root of the tree of entries.
abbrev pub root_part : List Entry → Part
root_part es =
    record {
      byte = 0;
      prefix = [];
      values = ending es;
      children = span_of (map (λ g. g.0) (groups es));
    }
