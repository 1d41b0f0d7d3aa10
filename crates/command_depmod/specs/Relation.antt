-- The relation of a tree over a kernel, or what keeps it from having one. modules.dep(5),
-- depmod(8).
use Rattle.std.specs.Prelude.{ℕ, List, [], ◌∷◌, length, map, Option, Some, None, option_map}
use Rattle.std.specs.List.{sum_by}
use Rattle.km_names.specs.First.{first}
use Rattle.module_facts.specs.declared.facts.Facts.{Facts}
use Rattle.symbol_binding.specs.Symbols.{Module, Kernel}
use Rattle.symbol_binding.specs.Unmet.{doubles}
use Rattle.relation_order.specs.Sets.{below}
use Rattle.relation_order.specs.Cycle.{cycle}
use Rattle.provider_rel.specs.Faces.{modules_of}
use Rattle.provider_rel.specs.Relation.{deps_fault, dependencies, doubles_fault, name_at, uses_at}
use Rattle.provider_rel.specs.declared.fault.RelationFault.{RelationFault}
use Rattle.provider_rel.specs.declared.fault.RelationFault.TheVariants as faults
use Rattle.km_course.specs.Course.{Outcome}
use Rattle.km_course.specs.declared.end.End.TheVariants.{Refused}
use Rattle.km_course.specs.declared.refusal.Refusal.{Refusal}
use Rattle.km_course.specs.declared.refusal.Refusal.TheVariants.{Cycle, TooManyDependencies}
use Rattle.km_course.specs.declared.refusal.Refusal.TheVariants.{TooManyDoubles}
use Rattle.km_course.specs.declared.stop.Stop.{Stop}
use Rattle.km_course.specs.declared.stop.Stop.TheVariants.{Ended, Memory}
use Rattle.km_course.specs.Course.{value_unless}

-- A tree that has a relation over a kernel: the facts of its modules, and the kernel.
pub record KernelTree : Type 0 where
  pub facts : List Facts
  pub kernel : Kernel

-- The refusal of the cycle of the modules at these places, if there are any.
abbrev pub cycle_refusal : List Module → List ℕ → Option Refusal
cycle_refusal tree [] = None
cycle_refusal tree (i ∷ is) = Some (Cycle (map (name_at tree) (i ∷ is)))

-- The refusal of a tree over a kernel: of its cycle, of too many dependencies, or of too many
-- double lines; the first that holds.
abbrev pub relation_refusal : List Module → Kernel → Option Refusal
relation_refusal tree kernel =
    first (
    cycle_refusal tree (cycle (uses_at tree kernel) (below (length tree)))
    ∷ option_map (λ _. TooManyDependencies) (deps_fault (sum_by length (dependencies tree kernel)))
    ∷ option_map (λ _. TooManyDoubles) (doubles_fault (length (doubles kernel tree)))
    ∷ [])

-- how a fault of a relation stops the command
abbrev pub relation_stop : RelationFault → Stop
relation_stop (faults.Cycle names) = Ended (Refused (Cycle names))
relation_stop (faults.TooManyDeps count) = Ended (Refused TooManyDependencies)
relation_stop (faults.TooManyDoubles count) = Ended (Refused TooManyDoubles)
relation_stop faults.Memory = Memory

-- What a tree over a kernel results in.
unfoldable pub relation_outcome : KernelTree → Outcome KernelTree
relation_outcome tree =
    value_unless (λ refusal. refusal) (relation_refusal (modules_of tree.facts) tree.kernel) tree
