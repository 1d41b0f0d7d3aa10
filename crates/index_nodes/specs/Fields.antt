-- The places of the fields of a node in a file.
use Rattle.std.specs.Prelude.{◌≡◌, ℕ, ◌+◌, ◌≤◌, true, List, length, drop}
use Rattle.index_format.specs.Link.{place_of, has_prefix}
use Rattle.index_format.specs.Node.{prefix, after_prefix, after_children}
use Rattle.index_format.specs.Nodes.{IsNode}
use Rattle.index_nodes.specs.declared.node.Node.{Node}

-- The prefix of the node ends at this place, with its NUL if it has one.
pub record IsPrefixEnd (b : List ℕ) (link end : ℕ) : Type 0 where
  pub within : end ≤ length b
  pub rest : drop end b ≡ after_prefix b link
  pub size : has_prefix link ≡ true → end ≡ place_of link + length (prefix b link) + 1

-- The children of the node end at this place.
pub record IsChildrenEnd (b : List ℕ) (link end : ℕ) : Type 0 where
  pub within : end ≤ length b
  pub rest : drop end b ≡ after_children b link

-- The fields of the node are at the places that it states.
pub record HasFields (b : List ℕ) (n : Node) : Type 0 where
  pub children : IsPrefixEnd b n.link n.children
  pub values : IsChildrenEnd b n.link n.values

-- The offset that leads to a node.
abbrev pub link_of : Node → ℕ
link_of n = n.link

-- The node is one of the file.
pub record IsNodeOf (b : List ℕ) (n : Node) : Type 0 where
  pub node : IsNode b n.link
  pub fields : HasFields b n
