-- What the course of the loads of listed modules is, by the machines of these loads. modprobe(8),
-- proc(5).
use Rattle.std.specs.Prelude.{◌≡◌, ℕ, List, [], ◌∷◌, map, reverse, Some, Ok, Err, Option}
use Rattle.km_names.specs.Path.{path_below}
use Rattle.outside_calls.specs.Contents.{Contents}
use Rattle.km_course.specs.Course.{Run}
use Rattle.km_course.specs.Course.Act.{read}
use Rattle.km_course.specs.Course.Outcome.{value, end}
use Rattle.km_course.specs.declared.end.End.TheVariants.{Refused}
use Rattle.km_course.specs.declared.refusal.Refusal.TheVariants.{ListedRefused}
use Rattle.index_read.specs.declared.index.Index.{Index}
use Rattle.module_facts.specs.declared.module.Module.{Module}
use Rattle.load_fault.specs.declared.fault.LoadFault.{LoadFault}
use Rattle.load_fault.specs.FaultText.{load_fault_text}
use Rattle.model_loader.specs.Machine.{Machine}
use Rattle.laws_closed_plans.specs.Loads.{load_all}
use Rattle.stages_files.specs.KernelModules.{path_listed}
use Rattle.stages_loads.specs.Listed.{loads_listed}
use Rattle.laws_planned_loads.specs.Files.{AreFileModules}
use Rattle.laws_planned_loads.specs.Loads.{IsFirstRefused}

-- Each path is the one that is found for its name.
abbrev pub AreListedPaths : (List ℕ → Option (List ℕ)) → List (List ℕ) → List (List ℕ) → Type 0
AreListedPaths found [] [] = Unit {0}
AreListedPaths found [] (path ∷ paths) = ⊥
AreListedPaths found (name ∷ names) [] = ⊥
AreListedPaths found (name ∷ names) (path ∷ paths) =
    (found name ≡ Some path) × AreListedPaths found names paths

-- The modules of names went into a machine, one after the other: each was read of its file, and
-- nothing else was done.
pub record ListedGoIn (held : Contents) (folder : List ℕ) (index : Index) (machine : Machine)
    (names : List (List ℕ)) (after : Machine) (run : Run Machine) : Type 0 where
  pub paths : List (List ℕ)
  pub listed : List Module
  pub found : AreListedPaths (path_listed index) names paths
  pub files : AreFileModules held folder paths listed
  pub loaded : load_all machine listed ≡ Ok after
  pub acts : run.acts ≡ map (λ path. read (path_below folder path)) paths

-- If a course of the loads of listed modules gives a machine, its loads are the machine's, the last
-- of the list first.
abbrev pub ListedAreOfMachine : Type 0
ListedAreOfMachine =
    (held : Contents) (folder : List ℕ) (index : Index) (machine : Machine) (names : List (List ℕ))
    (after : Machine)
    → ((loads_listed folder (path_listed index) machine names).run held).outcome ≡ value after
    → ListedGoIn held folder index machine (reverse names) after
    ((loads_listed folder (path_listed index) machine names).run held)

-- One of the listed modules was refused, and that is reported.
pub record ListedIsRefused (machine : Machine) (ms : List Module) (fault : LoadFault)
    (run : Run Machine) : Type 0 where
  pub first : IsFirstRefused machine ms fault
  pub tells : run.outcome ≡ end (Refused (ListedRefused first.m.facts.name (load_fault_text fault)))

-- Loads of listed modules are loads of the machine. If the modules can be loaded one after the
-- other, all go in. Otherwise the first refusal is reported.
pub record AreListedLoads (machine : Machine) (ms : List Module) (run : Run Machine) : Type 0 where
  pub loaded : (after : Machine) → load_all machine ms ≡ Ok after → run.outcome ≡ value after
  pub stopped : (fault : LoadFault) → load_all machine ms ≡ Err fault
      → ListedIsRefused machine ms fault run

-- Over files of valid modules the loads of listed modules in a course are the machine's loads.
abbrev pub ListedLoadsAreOfMachine : Type 0
ListedLoadsAreOfMachine =
    (held : Contents) (folder : List ℕ) (index : Index) (machine : Machine)
    (names paths : List (List ℕ)) (ms : List Module)
    → AreListedPaths (path_listed index) (reverse names) paths
    → AreFileModules held folder paths ms
    → AreListedLoads machine ms ((loads_listed folder (path_listed index) machine names).run held)
