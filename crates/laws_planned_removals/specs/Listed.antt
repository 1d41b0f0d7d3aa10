-- The listed modules that a removal takes. modules.dep(5), proc(5).
use Rattle.std.specs.Prelude.{◌≡◌, ℕ, List, reverse, Ok}
use Rattle.outside_calls.specs.Contents.{Contents}
use Rattle.km_course.specs.Course.Outcome.{value}
use Rattle.module_facts.specs.declared.module.Module.{Module}
use Rattle.name_lookup.specs.declared.indexes.Indexes.{Indexes}
use Rattle.model_loader.specs.Machine.{Machine}
use Rattle.laws_closed_plans.specs.Loads.{load_all}
use Rattle.laws_planned_loads.specs.Files.{AreFileModules}
use Rattle.laws_planned_loads.specs.Listed.{AreListedPaths}
use Rattle.stages_loads.specs.Listed.{loads_listed}
use Rattle.command_remove.specs.Listed.{well_formed_path}

-- The modules of names went into a machine, one after the other, each of its file.
pub record AreTaken (held : Contents) (folder : List ℕ) (indexes : Indexes) (machine : Machine)
    (names : List (List ℕ)) (after : Machine) : Type 0 where
  pub paths : List (List ℕ)
  pub modules : List Module
  pub found : AreListedPaths (well_formed_path indexes) names paths
  pub files : AreFileModules held folder paths modules
  pub loaded : load_all machine modules ≡ Ok after

-- If a course of the loads of listed modules gives a machine, its loads are the machine's, the last
-- of the list first.
abbrev pub ListedAreTaken : Type 0
ListedAreTaken =
    (held : Contents) (folder : List ℕ) (indexes : Indexes) (machine : Machine)
    (names : List (List ℕ)) (after : Machine)
    → ((loads_listed folder (well_formed_path indexes) machine names).run held).outcome
    ≡ value after
    → AreTaken held folder indexes machine (reverse names) after
