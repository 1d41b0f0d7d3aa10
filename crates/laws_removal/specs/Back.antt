-- A removal takes back the modules that were loaded last, and the machine from before is left.
-- modprobe(8), `-r`.
use Rattle.std.specs.Prelude.{◌≡◌, ℕ, List, ◌++◌, map, reverse, None, Ok}
use Rattle.std.specs.List.{IsDistinct}
use Rattle.std.specs.Str.{bytes_eq}
use Rattle.module_facts.specs.declared.module.Module.{Module}
use Rattle.kernel_exports.specs.declared.kernel.Kernel.{Kernel}
use Rattle.module_region.specs.declared.region.Region.{Region}
use Rattle.model_loader.specs.Machine.{Machine}
use Rattle.model_loader.specs.Sound.{IsSound, entry_names}
use Rattle.model_loader.specs.Use.{name_at}
use Rattle.model_unload.specs.Unload.{unload_all}
use Rattle.remove_plan.specs.Removal.{in_use, is_asked, left_after, removed_by}
use Rattle.laws_closed_plans.specs.Binding.{IsLoaded, names_of}
use Rattle.laws_closed_plans.specs.Loads.{load_all}

-- The removed modules are these, oldest first.
abbrev pub AreRemovedModules : Machine → List (List ℕ) → List Module → Type 0
AreRemovedModules machine names ms =
    map (name_at machine) (removed_by machine names) ≡ reverse (names_of ms)

-- For every split of loaded modules into older and newer ones: if the removed ones are the newer
-- ones, the machine of only the older ones is left.
abbrev pub OlderAreLeft : Type 0
OlderAreLeft =
    (machine after : Machine) (older newer : List Module) (names : List (List ℕ))
    → load_all machine (older ++ newer) ≡ Ok after
    → IsDistinct bytes_eq (entry_names after)
    → AreRemovedModules after names newer
    → load_all machine older ≡ Ok (left_after after names)

-- The machine that is left after a removal is the one of only the older modules, and sound. None of
-- the newer ones is refused when it is removed.
pub record AreTakenBack (kernel : Kernel) (region : Region) (older newer : List Module)
    (after : Machine) (names : List (List ℕ)) : Type 0 where
  pub loaded : IsLoaded kernel region older (left_after after names)
  pub unloaded : unload_all after (reverse (names_of newer)) ≡ Ok (left_after after names)
  pub sound : IsSound (left_after after names) older

-- Removals take back modules that were loaded into a new machine, unless one that is asked for is
-- in use.
abbrev pub RemovalsTakeBack : Type 0
RemovalsTakeBack =
    (kernel : Kernel) (region : Region) (older newer : List Module) (after : Machine)
    (names : List (List ℕ))
    → IsLoaded kernel region (older ++ newer) after
    → in_use after (is_asked after names) ≡ None
    → AreRemovedModules after names newer
    → AreTakenBack kernel region older newer after names
