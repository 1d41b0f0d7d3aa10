-- A tree with its relation, as the code keeps it. No public meaning rests on these definitions.
use Rattle.provider_rel.specs.Tree.{IsTree}
use Rattle.provider_rel.specs.Faces.{modules_of, kernel_of}
use Rattle.provider_rel.specs.Seen.{IsRelation}
use Rattle.command_depmod.specs.declared.relation.RelatedTree.{RelatedTree}
use Rattle.command_depmod.specs.Relation.{KernelTree}

-- what is seen of it
abbrev pub seen_tree : RelatedTree → KernelTree
seen_tree t = record { facts = t.facts; kernel = kernel_of t.kernel }

-- Its facts are facts of a tree, and its relation is the relation of that tree over its kernel.
pub record IsRelated (t : RelatedTree) : Type 0 where
  pub tree : IsTree t.facts
  pub relation : IsRelation (modules_of t.facts) (kernel_of t.kernel) t.relation
