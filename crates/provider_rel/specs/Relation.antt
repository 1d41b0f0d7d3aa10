-- The relation of a tree over a kernel: who provides a name, what a module depends on, and why a
-- tree may have no relation. modules.dep(5), depmod(8).
use Rattle.std.specs.Prelude.{ℕ, false, nat_lt, List, [], ◌∷◌, length, map, min, slice_get, Option}
use Rattle.std.specs.Prelude.{Some, None, if◌then◌else◌}
use Rattle.std.specs.List.{position_or_len, sum_by}
use Rattle.std.specs.Option.{option_map_or}
use Rattle.std.specs.Str.{bytes_eq}
use Rattle.km_names.specs.First.{first}
use Rattle.symbol_binding.specs.Symbols.{Module, Kernel}
use Rattle.symbol_binding.specs.Provider.{Owner, ByKernel, ByModule, Provided, provider, uses}
use Rattle.symbol_binding.specs.Unmet.{doubles}
use Rattle.relation_order.specs.Sets.{Relation as Goes, has, below}
use Rattle.relation_order.specs.Cycle.{cycle}
use Rattle.relation_order.specs.Closures.{closures}
use Rattle.provider_rel.specs.declared.provider.Provider.{Provider}
use Rattle.provider_rel.specs.declared.provider.Provider.TheVariants.{Nobody, Kernel as TheKernel}
use Rattle.provider_rel.specs.declared.provider.Provider.TheVariants.{Module as TheModule}
use Rattle.provider_rel.specs.declared.fault.RelationFault.{RelationFault}
use Rattle.provider_rel.specs.declared.fault.RelationFault.TheVariants.{Cycle, TooManyDeps}
use Rattle.provider_rel.specs.declared.fault.RelationFault.TheVariants.{TooManyDoubles}

-- The place of a module in a tree: the place of the first module of its name.
abbrev pub place : List Module → Module → ℕ
place tree m = position_or_len (λ n. bytes_eq n.face.name m.face.name) tree

-- An owner as an answer: a module by its place.
abbrev pub owner_answer : List Module → Owner Module → Provider
owner_answer tree ByKernel = TheKernel
owner_answer tree (ByModule m) = TheModule (record { 0 = place tree m })

-- The provider of a name, as an answer.
abbrev pub answer : List Module → Option (Provided Module) → Provider
answer tree found = option_map_or (λ p. owner_answer tree p.owner) found Nobody

-- Who provides a name.
abbrev pub provider_of : List Module → Kernel → List ℕ → Provider
provider_of tree kernel x = answer tree (provider tree kernel x)

-- Whether the module at a place uses the one at another: the second provides a need of the first,
-- weak or strong.
abbrev pub uses_at : List Module → Kernel → Goes
uses_at tree kernel i j =
    option_map_or (λ m. has (map (place tree) (uses tree kernel m)) j) (slice_get tree i) false

-- The name of the module at a place.
abbrev pub name_at : List Module → ℕ → List ℕ
name_at tree i = option_map_or (λ m. m.face.name) (slice_get tree i) []

-- The cycle of the modules at these places, if there are any.
abbrev pub cycle_fault : List Module → List ℕ → Option RelationFault
cycle_fault tree [] = None
cycle_fault tree (i ∷ is) = Some (Cycle (map (name_at tree) (i ∷ is)))

-- What each module depends on: the modules that walks of uses reach from it, in the least order.
unfoldable pub dependencies : List Module → Kernel → List (List ℕ)
dependencies tree kernel = closures (uses_at tree kernel) (length tree)

-- The fault of more than 2,000,000 dependencies of all modules together.
abbrev pub deps_fault : ℕ → Option RelationFault
deps_fault count = if nat_lt 2000000 count then Some (TooManyDeps count) else None

-- The fault of more than 100,000 double lines. A count past 64 bits is given as the greatest of 64.
abbrev pub doubles_fault : ℕ → Option RelationFault
doubles_fault count =
    if nat_lt 100000 count then Some (TooManyDoubles (min count 18446744073709551615)) else None

-- Why a tree has no relation: its named cycle, too many dependencies, or too many double lines; the
-- first that holds.
unfoldable pub relation_fault : List Module → Kernel → Option RelationFault
relation_fault tree kernel =
    first (
    cycle_fault tree (cycle (uses_at tree kernel) (below (length tree)))
    ∷ deps_fault (sum_by length (dependencies tree kernel))
    ∷ doubles_fault (length (doubles kernel tree))
    ∷ [])
