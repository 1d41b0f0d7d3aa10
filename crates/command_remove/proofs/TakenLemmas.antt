-- The machine of the listed modules is that of their loads, and no step of a removal from it is
-- refused.
use Rattle.std.proofs.Common.{◌≡◌, ◌∙◌, ℕ, Bool, List, [], ◌∷◌, Option, Some, None, refl, sym, ap}
use Rattle.std.proofs.Common.{ap₂, subst, arith, inl, inr, length, map}
use Rattle.std.specs.Prelude.{Result, Ok, Err}
use Rattle.km_course.specs.Course.{Outcome, Stage, ◌>>=◌, each_from, given, possible_after}
use Rattle.km_course.specs.Course.Outcome.{value, end}
use Rattle.km_course.specs.declared.end.End.{End}
use Rattle.modprobe_conf.specs.declared.rule.Rule.{Rule}
use Rattle.module_facts.specs.declared.module.Module.{Module}
use Rattle.kernel_exports.specs.declared.kernel.Kernel.{Kernel}
use Rattle.load_fault.specs.declared.fault.LoadFault.{LoadFault}
use Rattle.kernel_exports.specs.declared.kernel.KernelExport.{KernelExport}
use Rattle.module_region.specs.declared.region.Region.{Region}
use Rattle.model_loader.specs.Machine.{Machine, new_machine}
use Rattle.model_loader.specs.Step.{step}
use Rattle.model_loader.specs.Use.{name_at}
use Rattle.model_unload.specs.Unload.{unload_all}
use Rattle.name_lookup.specs.declared.indexes.Indexes.{Indexes}
use Rattle.remove_plan.specs.declared.step.RemoveStep.{RemoveStep}
use Rattle.remove_plan.specs.Removal.{Places, in_use, is_asked, left_after, removed_by}
use Rattle.remove_plan.specs.Steps.{chosen_command, remove_step, removal_steps, step_unless}
use Rattle.laws_closed_plans.specs.Binding.{IsLoaded}
use Rattle.laws_closed_plans.specs.Loads.{load_all, unless_refused}
use Rattle.laws_closed_plans.proofs.BindingLemmas.{loads-bind}
use Rattle.laws_removal.proofs.PassLemmas.{removals-pass}
use Rattle.laws_removal.proofs.UnloadedLemmas.{removals-are-unloaded, removed-fall}
use Rattle.stages_files.specs.KernelTable.{Table}
use Rattle.stages_loads.specs.declared.load.Cause.TheVariants.{Listed}
use Rattle.stages_loads.specs.Listed.{listed_outcome, loads_listed_at}
use Rattle.stages_loads.specs.Loads.{load_outcome}
use Rattle.stages_loads.specs.Modules.{reads_module}
use Rattle.stages_loads.specs.Tables.{kernel_with, machine_outcome, reads_addressed, reads_machine}
use Rattle.stages_loads.specs.Tables.{unplaced}
use Rattle.stages_loads.proofs.ListedSteps.{listed_found, listed_read}
use Rattle.stages_loads.proofs.TableSteps.{made}
use Rattle.stages_loads.specs.Listed.{loads_listed_one}
use Rattle.command_remove.specs.Listed.{well_formed_path}
use Rattle.command_remove.specs.Remove.{step_name, steps_outcome, steps_unless}
use Rattle.command_remove.specs.Taken.{CanBeTakenOut}

-- ---- what stages may give

no-value : {X : Type 0} (x : X) (e : End) → ◌≡◌ {A = Outcome X} (value x) (end e) → ⊥
no-value x e is = cc

came-of : {X Y : Type 0} (stage : Stage X) (next : X → Stage Y) (y : Y)
    → (stage >>= next).possible (value y)
    → (x : X) × stage.possible (value x) × (next x).possible (value y)
unfolding ◌>>=◌ possible_after
came-of stage next y h = elim h [ inl a ↦ a | inr b ↦ absurd (no-value y b.0 b.2) ]

came-given : {X : Type 0} (o : Outcome X) (x : X) → (given o).possible (value x) → value x ≡ o
unfolding given
came-given o x is = is

pub same-value : {X : Type 0} (x y : X) → ◌≡◌ {A = Outcome X} (value x) (value y) → x ≡ y
same-value x y is = cc

-- ---- the machine of the listed modules

machine-made : (table : Table) (region : Region) (left : Option KernelExport) (machine : Machine)
    → value machine ≡ machine_outcome table region left
    → (kernel : Kernel) × (machine ≡ new_machine kernel region)
unfolding machine_outcome
machine-made table region None machine is =
    (kernel_with table, same-value machine (new_machine (kernel_with table) region) is)
machine-made table region (Some e) machine is = absurd (no-value machine _ is)

-- a machine that is made of tables is new
pub new-made : (map : List ℕ) (symvers : Option (List ℕ)) (region : Region) (machine : Machine)
    → (reads_machine map symvers region).possible (value machine)
    → (kernel : Kernel) × (machine ≡ new_machine kernel region)
new-made map symvers region machine h =
    let a = came-of (reads_addressed map symvers) (made region) machine h in
    machine-made a.0 region (unplaced a.0.exports) machine
    (came-given (machine_outcome a.0 region (unplaced a.0.exports)) machine a.2)

stepped : (name : List ℕ) (r : Result Machine LoadFault) (after : Machine)
    → value after ≡ load_outcome Listed name r → r ≡ Ok after
unfolding load_outcome
stepped name (Ok other) after is = ap Ok (sym (same-value after other is))
stepped name (Err fault) after is = absurd (no-value after _ is)

one-taken : (folder : List ℕ) (machine : Machine) (name : List ℕ) (found : Option (List ℕ))
    (after : Machine)
    → (loads_listed_at folder machine name found).possible (value after)
    → (m : Module) × (step machine m ≡ Ok after)
one-taken folder machine name found after h =
    let a = came-of (given (listed_outcome name found)) (listed_found folder machine) after h in
    let b = came-of (reads_module folder a.0) (listed_read machine) after a.2 in
    let m : Module = b.0 in (
      m,
      stepped m.facts.name (step machine m) after
          (came-given (load_outcome Listed m.facts.name (step machine m)) after b.2),
    )

all-taken : (folder : List ℕ) (indexes : Indexes) (names : List (List ℕ)) (machine after : Machine)
    → (each_from (loads_listed_one folder (well_formed_path indexes)) machine names).possible
    (value after)
    → (ms : List Module) × (load_all machine ms ≡ Ok after)
all-taken folder indexes [] machine after h =
    ([], ap Ok (sym (same-value after machine (came-given (value machine) after h))))
all-taken folder indexes (name ∷ names) machine after h =
    let a
    = came-of (loads_listed_one folder (well_formed_path indexes) machine name)
    (λ next. each_from (loads_listed_one folder (well_formed_path indexes)) next names) after h in
    let one = one-taken folder machine name (well_formed_path indexes name) a.0 a.1 in
    let rest = all-taken folder indexes names a.0 after a.2 in
    (one.0 ∷ rest.0, ap (unless_refused (λ next. load_all next rest.0)) one.1 ∙ rest.1)

-- a machine of modules that were loaded into a new one
abbrev pub IsOfLoads : Machine → Type 0
IsOfLoads machine =
    (kernel : Kernel) × (region : Region) × (ms : List Module) × IsLoaded kernel region ms machine

-- listed modules that were taken into a new machine were loaded
pub of-loads : (folder : List ℕ) (indexes : Indexes) (names : List (List ℕ)) (kernel : Kernel)
    (region : Region) (machine after : Machine)
    → machine ≡ new_machine kernel region
    → (each_from (loads_listed_one folder (well_formed_path indexes)) machine names).possible
    (value after)
    → IsOfLoads after
of-loads folder indexes names kernel region machine after new h =
    let all = all-taken folder indexes names machine after h in
    (kernel, region, all.0, subst (λ (m : Machine). load_all m all.0 ≡ Ok after) new all.1)

-- ---- the steps

name-kept : (name : List ℕ) (command : Option (List ℕ))
    → step_name (step_unless name command) ≡ name
name-kept name None = refl
name-kept name (Some command) = refl

-- steps are for the modules that are removed
pub step-names : (machine : Machine) (rules : List Rule) (ignored : Bool) (r : Places) (ks : List ℕ)
    → map step_name (map (remove_step machine rules ignored r) ks) ≡ map (name_at machine) ks
step-names machine rules ignored r [] = refl
step-names machine rules ignored r (k ∷ ks) =
    ap₂ ◌∷◌ (name-kept (name_at machine k) (chosen_command machine rules ignored r k))
    (step-names machine rules ignored r ks)

-- what steps that are given are: none of the modules that are asked for is in use
pub record AreSteps (machine : Machine) (rules : List Rule) (ignored : Bool) (names : List (List ℕ))
    (steps : List RemoveStep) : Type 0 where
  pub free : in_use machine (is_asked machine names) ≡ None
  pub are : steps ≡ removal_steps machine rules ignored names

steps-by : (machine : Machine) (rules : List Rule) (ignored : Bool) (names : List (List ℕ))
    (steps : List RemoveStep) (used : Option (ℕ × ℕ))
    → in_use machine (is_asked machine names) ≡ used
    → steps_unless machine used (removal_steps machine rules ignored names) ≡ value steps
    → AreSteps machine rules ignored names steps
steps-by machine rules ignored names steps None free is =
    record
    { free = free; are = sym (same-value (removal_steps machine rules ignored names) steps is) }
steps-by machine rules ignored names steps (Some used) free is = absurd (no-value steps _ (sym is))

pub are-steps : (machine : Machine) (rules : List Rule) (ignored : Bool) (names : List (List ℕ))
    (steps : List RemoveStep)
    → steps_outcome machine rules ignored names ≡ value steps
    → AreSteps machine rules ignored names steps
unfolding steps_outcome
are-steps machine rules ignored names steps is =
    steps-by machine rules ignored names steps (in_use machine (is_asked machine names)) refl is

-- they are carried out without a refusal, and the machine without the removed modules is left
pub steps-unload : (kernel : Kernel) (region : Region) (ms : List Module) (machine : Machine)
    (rules : List Rule) (ignored : Bool) (names : List (List ℕ)) (steps : List RemoveStep)
    → IsLoaded kernel region ms machine → AreSteps machine rules ignored names steps
    → unload_all machine (map step_name steps) ≡ Ok (left_after machine names)
steps-unload kernel region ms machine rules ignored names steps loaded s =
    ap (unload_all machine)
    (ap (map step_name) s.are
    ∙ step-names machine rules ignored (is_asked machine names) (removed_by machine names))
    ∙ removals-are-unloaded machine names (loads-bind kernel region ms machine loaded).names s.free

pub can-be-taken-out : (machine : Machine) (rules : List Rule) (ignored : Bool)
    (names : List (List ℕ)) (steps : List RemoveStep)
    → IsOfLoads machine → steps_outcome machine rules ignored names ≡ value steps
    → CanBeTakenOut machine (length machine.entries) steps
can-be-taken-out machine rules ignored names steps of is =
    let s = are-steps machine rules ignored names steps is in
    let ks = removed_by machine names in
    record {
      places = ks;
      named
          = ap (map step_name) s.are ∙ step-names machine rules ignored (is_asked machine names) ks;
      falling = removed-fall machine names;
      within = omega arith;
      unused = (removals-pass machine names s.free).0;
      names = (loads-bind of.0 of.1 of.2 machine of.3).names;
    }
