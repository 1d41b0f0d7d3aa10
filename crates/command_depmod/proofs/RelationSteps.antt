-- The relation of a tree, or why it has none.
use Rattle.std.proofs.Common.{◌≡◌, ℕ, Bool, true, false, List, [], ◌∷◌, length, refl, sym, ap}
use Rattle.std.proofs.Common.{subst, ◌∙◌, inl, inr}
use Rattle.std.specs.Prelude.{nat_lt, min, map, if◌then◌else◌, Option, Some, None, option_map, Err}
use Rattle.std.specs.Prelude.{◌⊎◌}
use Rattle.std.specs.List.{sum_by}
use Rattle.km_names.specs.First.{first}
use Rattle.symbol_binding.specs.Symbols.{Module, Kernel}
use Rattle.symbol_binding.specs.Unmet.{doubles}
use Rattle.relation_order.specs.Sets.{below}
use Rattle.relation_order.specs.Cycle.{cycle}
use Rattle.provider_rel.specs.Faces.{modules_of}
use Rattle.provider_rel.specs.Relation.{cycle_fault, deps_fault, dependencies, doubles_fault}
use Rattle.provider_rel.specs.Relation.{relation_fault, uses_at}
use Rattle.provider_rel.specs.declared.fault.RelationFault.{RelationFault}
use Rattle.provider_rel.specs.declared.fault.RelationFault.TheVariants.{Cycle, TooManyDeps}
use Rattle.provider_rel.specs.declared.fault.RelationFault.TheVariants.{TooManyDoubles, Memory}
use Rattle.km_course.specs.Course.Outcome.{value, end}
use Rattle.km_course.specs.Follows.{Answers}
use Rattle.km_course.specs.declared.end.End.TheVariants.{Refused}
use Rattle.km_course.specs.declared.refusal.Refusal.{Refusal}
use Rattle.km_course.specs.declared.refusal.Refusal.TheVariants as refusals
use Rattle.km_course.specs.declared.stop.Stop.{Stop}
use Rattle.km_course.specs.Course.{value_unless}
use Rattle.command_depmod.specs.Relation.{KernelTree, cycle_refusal, relation_outcome}
use Rattle.command_depmod.specs.Relation.{relation_refusal, relation_stop}
use Rattle.command_depmod.specs.Related.{seen_tree}

-- the first of some tests, whose faults are read as others
pub first-read : {F G : Type 0} (read : F → G) (tests : List (Option F))
    → first (map (option_map read) tests) ≡ option_map read (first tests)
first-read read [] = refl
first-read read (None ∷ tests) = first-read read tests
first-read read (Some fault ∷ tests) = refl

-- what is read of no fault is no fault
pub none-read : {F G : Type 0} (read : F → G) (o : Option F) → option_map read o ≡ None → o ≡ None
none-read read None is = refl
none-read read (Some fault) is = absurd (cc)

-- the refusal of a fault; no tree has the fault of memory
abbrev refusal_for : RelationFault → Refusal
refusal_for (Cycle names) = refusals.Cycle names
refusal_for (TooManyDeps count) = refusals.TooManyDependencies
refusal_for (TooManyDoubles count) = refusals.TooManyDoubles
refusal_for Memory = refusals.TooManyDependencies

cycle-alike : (tree : List Module) (is : List ℕ)
    → cycle_refusal tree is ≡ option_map refusal_for (cycle_fault tree is)
cycle-alike tree [] = refl
cycle-alike tree (i ∷ is) = refl

-- a test whose fault has this refusal
tested-alike : (failed : Bool) (fault : RelationFault) (refusal : Refusal)
    → refusal ≡ refusal_for fault
    → option_map (λ _. refusal) (if failed then Some fault else None)
    ≡ option_map refusal_for (if failed then Some fault else None)
tested-alike true fault refusal is = ap Some is
tested-alike false fault refusal is = refl

-- the refusals are those of the faults of a tree
refusal-alike : (tree : List Module) (kernel : Kernel)
    → relation_refusal tree kernel ≡ option_map refusal_for (relation_fault tree kernel)
unfolding relation_fault
refusal-alike tree kernel =
    let places = cycle (uses_at tree kernel) (below (length tree)) in
    let many = sum_by length (dependencies tree kernel) in
    let twice = length (doubles kernel tree) in
    let some : Option Refusal = option_map refusal_for (cycle_fault tree places) in
    let deps : Option Refusal = option_map refusal_for (deps_fault many) in
    let pairs : Option Refusal = option_map (λ _. refusals.TooManyDoubles) (doubles_fault twice) in
    ap (λ o. first
    (o ∷ option_map (λ _. refusals.TooManyDependencies) (deps_fault many) ∷ pairs ∷ []))
    (cycle-alike tree places)
    ∙ ap (λ o. first (some ∷ o ∷ pairs ∷ []))
    (tested-alike (nat_lt 2000000 many) (TooManyDeps many) refusals.TooManyDependencies refl)
    ∙ ap (λ o. first (some ∷ deps ∷ o ∷ []))
    (tested-alike (nat_lt 100000 twice) (TooManyDoubles (min twice 18446744073709551615))
    refusals.TooManyDoubles refl)
    ∙ first-read refusal_for (cycle_fault tree places ∷ deps_fault many ∷ doubles_fault twice ∷ [])

-- a tree that isn't refused has no fault
pub no-fault : (tree : List Module) (kernel : Kernel) → relation_refusal tree kernel ≡ None
    → relation_fault tree kernel ≡ None
no-fault tree kernel is =
    none-read refusal_for (relation_fault tree kernel) (sym (refusal-alike tree kernel) ∙ is)

pub related_ok : (tree : KernelTree) → relation_fault (modules_of tree.facts) tree.kernel ≡ None
    → relation_outcome tree ≡ value tree
unfolding relation_outcome
related_ok tree passed =
    ap (λ o. value_unless (λ refusal. refusal) o tree)
    (refusal-alike (modules_of tree.facts) tree.kernel ∙ ap (option_map refusal_for) passed)

-- a tree with this fault is refused for it
refused-for : (tree : KernelTree) (fault : RelationFault)
    → relation_fault (modules_of tree.facts) tree.kernel ≡ Some fault
    → relation_outcome tree ≡ end (Refused (refusal_for fault))
unfolding relation_outcome
refused-for tree fault is =
    ap (λ o. value_unless (λ refusal. refusal) o tree)
    (refusal-alike (modules_of tree.facts) tree.kernel ∙ ap (option_map refusal_for) is)

-- a fault of a tree is what keeps it from having a relation, or out of memory
pub related_not : (tree : KernelTree) (fault : RelationFault) (stop : Stop)
    → (fault ≡ Memory) ⊎ (relation_fault (modules_of tree.facts) tree.kernel ≡ Some fault)
    → stop ≡ relation_stop fault → Answers seen_tree (relation_outcome tree) (Err stop)
related_not tree Memory stop cause is =
    subst (λ s. Answers seen_tree (relation_outcome tree) (Err s)) (sym is) tt
related_not tree (Cycle names) stop (inl m) is = cc
related_not tree (Cycle names) stop (inr f) is =
    subst (λ s. Answers seen_tree (relation_outcome tree) (Err s)) (sym is) (refused-for tree _ f)
related_not tree (TooManyDeps count) stop (inl m) is = cc
related_not tree (TooManyDeps count) stop (inr f) is =
    subst (λ s. Answers seen_tree (relation_outcome tree) (Err s)) (sym is) (refused-for tree _ f)
related_not tree (TooManyDoubles count) stop (inl m) is = cc
related_not tree (TooManyDoubles count) stop (inr f) is =
    subst (λ s. Answers seen_tree (relation_outcome tree) (Err s)) (sym is) (refused-for tree _ f)
