-- What loading a closed plan results in.
use Rattle.std.specs.Prelude.{◌≡◌, ℕ, true, List, [], ◌∷◌, ◌++◌, length, map, AllPairs, IfSome}
use Rattle.std.specs.Prelude.{IfErr, IsOk, Ok}
use Rattle.relation_order.specs.Sets.{below}
use Rattle.relation_order.specs.Cycle.{cycle}
use Rattle.module_facts.specs.declared.facts.Facts.{Facts}
use Rattle.module_facts.specs.declared.module.Module.{Module}
use Rattle.symbol_binding.specs.Unmet.{unmet}
use Rattle.kernel_exports.specs.declared.kernel.Kernel.{Kernel}
use Rattle.kernel_exports.specs.KernelTable.{exports_with_addresses}
use Rattle.provider_rel.specs.Faces.{modules_of, kernel_of}
use Rattle.provider_rel.specs.Relation.{uses_at}
use Rattle.module_region.specs.declared.region.Region.{Region}
use Rattle.model_loader.specs.Machine.{Machine, new_machine}
use Rattle.model_loader.specs.Step.{refusal}
use Rattle.model_loader.specs.Sound.{IsSound}
use Rattle.laws_closed_plans.specs.Members.{Member}
use Rattle.laws_closed_plans.specs.Lines.{Lines, AreClosed, AreLinesOf}
use Rattle.laws_closed_plans.specs.Loads.{load_all, IsPlaceFault}

-- A tree of modules over a known kernel, with the dependency lines of its modules, has a relation.
pub record IsIndexed (tree : List Facts) (kernel : Kernel) (deps : Lines) : Type 0 where
  -- The kernel's table is known.
  pub known : kernel.known ≡ true
  -- No two modules have one name.
  pub names : AllPairs (λ (a b : Facts). a.name ≡ b.name → ⊥) tree
  -- No walk from a module to one that it uses leads back.
  pub acyclic : cycle (uses_at (modules_of tree) (kernel_of kernel)) (below (length tree)) ≡ []
  pub lines : AreLinesOf (modules_of tree) (kernel_of kernel) deps

-- A new machine is sound after any loads: each strong need is bound to an export that was there
-- before and agrees.
abbrev pub LoadsBind : Type 0
LoadsBind =
    (kernel : Kernel) (region : Region) (ms : List Module) (machine : Machine)
    → load_all (new_machine kernel region) ms ≡ Ok machine
    → IsSound machine ms

-- The names of modules.
abbrev pub names_of : List Module → List (List ℕ)
names_of ms = map (λ m. m.facts.name) ms

-- The machine of a kernel and a region after some modules were loaded one after the other.
abbrev pub IsLoaded : Kernel → Region → List Module → Machine → Type 0
IsLoaded kernel region ms machine = load_all (new_machine kernel region) ms ≡ Ok machine

-- A plan of modules of a tree, after listed ones, for a machine whose kernel has the table that was
-- indexed, with addresses.
pub record IsPlanned (tree : List Facts) (kernel : Kernel) (deps : Lines) (addressed : Kernel)
    (region : Region) (listed plan : List Module) : Type 0 where
  pub same_table : kernel_of addressed ≡ kernel_of kernel
  -- The listed modules are of the tree, and load one after the other, oldest first.
  pub listed_of : (m : Module) → Member m listed → Member m.facts tree
  pub listed_load : IsOk (load_all (new_machine addressed region) listed)
  -- The modules of the plan are of the tree, and the plan is closed over the listed ones.
  pub plan_of : (m : Module) → Member m plan → Member m.facts tree
  pub closed : AreClosed deps (unmet (modules_of tree) (kernel_of kernel)) (names_of listed)
      (names_of plan)

-- Addresses that a System.map adds to a kernel's table change nothing of what is seen of it. So the
-- indexed table is the machine's, if both are from one Module.symvers.
abbrev pub AddressesAreUnseen : Type 0
AddressesAreUnseen =
    (kernel addressed : Kernel) (bytes : List ℕ)
    → addressed.known ≡ kernel.known
    → exports_with_addresses bytes kernel.exports ≡ Ok addressed.exports
    → kernel_of addressed ≡ kernel_of kernel

-- A plan binds when it is loaded after listed modules.
pub record Binds (kernel : Kernel) (region : Region) (listed plan : List Module) : Type 0 where
  -- If a module is refused at its turn, the region has no room for it, or a word doesn't fit.
  pub refused : (before : List Module) (m : Module) (after : List Module)
      → plan ≡ before ++ m ∷ after → (machine : Machine)
      → IsLoaded kernel region (listed ++ before) machine → IfSome (refusal machine m) IsPlaceFault
  -- So the loads stop for nothing else.
  pub stopped : IfErr (load_all (new_machine kernel region) (listed ++ plan)) IsPlaceFault
  -- After each load the machine is sound: each strong need is bound to an export that was loaded
  -- before and agrees.
  pub sound : (before after : List Module) → plan ≡ before ++ after → (machine : Machine)
      → IsLoaded kernel region (listed ++ before) machine → IsSound machine (listed ++ before)

-- Closed plans bind.
abbrev pub ClosedPlansBind : Type 0
ClosedPlansBind =
    (tree : List Facts) (kernel : Kernel) (deps : Lines) (addressed : Kernel) (region : Region)
    (listed plan : List Module)
    → IsIndexed tree kernel deps
    → IsPlanned tree kernel deps addressed region listed plan
    → Binds addressed region listed plan
