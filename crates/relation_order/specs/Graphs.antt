-- The relation and the set of a graph.
-- It belongs to the code: no public meaning rests on it.
use Rattle.std.specs.Prelude.{ℕ, List}
use Rattle.relation_order.specs.Sets.{Relation, goes, marked}
use Rattle.relation_order.specs.declared.graph.Graph.{Graph}

-- Each item goes to the items in its list.
abbrev pub goes_in : Graph → Relation
goes_in g = goes g.lists.now

-- The members, in order.
abbrev pub members_of : Graph → List ℕ
members_of g = marked g.members.now
