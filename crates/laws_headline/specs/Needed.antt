-- What the premises of the headline are for: what happens to the load of two modules if a premise
-- doesn't hold.
use Rattle.std.specs.Prelude.{◌≡◌, ℕ, true, false, List, [], ◌∷◌, codes, Some, None, Err}
use Rattle.km_course.specs.Course.{Outcome}
use Rattle.km_course.specs.Course.Outcome.{value, end}
use Rattle.km_course.specs.declared.end.End.TheVariants.{Refused}
use Rattle.km_course.specs.declared.refusal.Refusal.TheVariants.{InstallChosen}
use Rattle.modprobe_conf.specs.declared.rule.Rule.{Rule}
use Rattle.modprobe_conf.specs.declared.rule.Rule.TheVariants as rules
use Rattle.module_facts.specs.Faults.{fact_fault}
use Rattle.kernel_exports.specs.declared.kernel.KernelExport.{KernelExport}
use Rattle.load_fault.specs.declared.fault.LoadFault.TheVariants.{ExportTaken, MissingSymbol}
use Rattle.load_fault.specs.declared.fault.MachineFault.TheVariants.{KernelWithoutAddress}
use Rattle.module_region.specs.declared.region.Region.{Region}
use Rattle.model_loader.specs.Machine.{kernel_fault, new_machine}
use Rattle.plan_builder.specs.declared.step.PlanStep.{PlanStep}
use Rattle.plan_builder.specs.declared.step.PlanStep.TheVariants.{Insert, Install}
use Rattle.stages_loads.specs.Modules.{module_at}
use Rattle.stages_loads.specs.Tables.{kernel_with}
use Rattle.stages_known.specs.declared.known.Known.{Known}
use Rattle.command_modprobe.specs.Loaded.{inserts_outcome}
use Rattle.command_modprobe.specs.Planned.{plan_outcome, request_of}
use Rattle.laws_closed_plans.specs.Loads.{load_all}
use Rattle.laws_planned_loads.specs.Reading.{indexes_of}
use Rattle.laws_depmod_leaves.specs.Comes.{IndexedTree, files_of}
use Rattle.laws_headline.specs.Objects.{earlier_facts, giver_facts, giver_file, taker_file}
use Rattle.laws_headline.specs.Met.{indexed, load_asked}

-- An export of the kernel under the name that a module exports, with an address or without one, as
-- a Module.symvers states it.
abbrev pub kernel_x : KernelExport
kernel_x = record { name = codes "x"; crc = None; address = None; gpl = false; space = [] }

abbrev pub placed_x : KernelExport
placed_x = record kernel_x { address = Some 4096 }

-- What is known over the files of an index, if the configuration states these rules and these
-- modules are listed as loaded.
abbrev pub known_of_files : IndexedTree → List Rule → List (List ℕ) → Known
known_of_files i stated loaded =
    record { rules = stated; indexes = indexes_of (files_of i); unmet = []; loaded = loaded }

-- The plan of the load, over the files of an index.
abbrev pub plan_over : IndexedTree → List Rule → List (List ℕ) → Outcome (List PlanStep)
plan_over i stated loaded =
    plan_outcome (known_of_files i stated loaded) loaded (request_of load_asked)

-- The same table: if the machine's kernel exports `x`, and the one that was indexed doesn't, a
-- module that exports it is refused.
abbrev pub OtherTableIsRefused : Type 0
OtherTableIsRefused =
    (passed : fact_fault (codes "p.ko") giver_file ≡ None) (region : Region)
    → load_all (new_machine (kernel_with (record { known = true; exports = placed_x ∷ [] })) region)
    (module_at (codes "p.ko") giver_file passed ∷ [])
    ≡ Err (ExportTaken (codes "x") (codes "vmlinux"))

-- The module that uses the other is refused if that one isn't loaded before it. It is refused too
-- if a command is run in its place, if listed modules don't load, and if the folder isn't as depmod
-- indexed it.
abbrev pub AloneIsRefused : Type 0
AloneIsRefused =
    (passed : fact_fault (codes "m.ko") taker_file ≡ None) (region : Region)
    → load_all (new_machine (kernel_with indexed.table) region)
    (module_at (codes "m.ko") taker_file passed ∷ [])
    ≡ Err (MissingSymbol (codes "x"))

-- The listed modules load: if the other module is listed as loaded, the plan leaves it out.
abbrev pub ListedIsLeftOut : Type 0
ListedIsLeftOut =
    plan_over indexed [] (codes "p" ∷ []) ≡ value (Insert (codes "m") (codes "m.ko") [] ∷ [])

-- No command: with an install rule for the other module its step runs the command, and the load is
-- refused.
abbrev pub CommandIsRefused : Type 0
CommandIsRefused =
    (plan_over indexed (rules.Install (codes "p") (codes "true") ∷ []) []
    ≡ value
    (Install (codes "p") (codes "true") ∷ Insert (codes "m") (codes "m.ko") [] ∷ []))
    × (inserts_outcome
    (Install (codes "p") (codes "true") ∷ Insert (codes "m") (codes "m.ko") [] ∷ [])
    ≡ end (Refused (InstallChosen (codes "p"))))

-- The folder as indexed: a tree in which the module didn't use the other yet. By its index only the
-- module itself is planned.
abbrev pub earlier : IndexedTree
earlier = record indexed { tree = earlier_facts ∷ giver_facts ∷ [] }

abbrev pub EarlierIsPlannedAlone : Type 0
EarlierIsPlannedAlone =
    plan_over earlier [] [] ≡ value (Insert (codes "m") (codes "m.ko") [] ∷ [])

-- Addresses: a kernel with an export that has none makes no machine.
abbrev pub NoAddressIsRefused : Type 0
NoAddressIsRefused = kernel_fault (kernel_x ∷ []) ≡ Some (KernelWithoutAddress (codes "x"))
