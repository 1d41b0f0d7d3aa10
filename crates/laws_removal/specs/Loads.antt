-- Modules that were loaded are removed again, and the machine from before the loads is left.
-- modprobe(8), `-r`.
use Rattle.std.specs.Prelude.{◌≡◌, ℕ, List, length, reverse, Ok}
use Rattle.std.specs.List.{IsDistinct, range_with_len}
use Rattle.std.specs.Str.{bytes_eq}
use Rattle.module_facts.specs.declared.module.Module.{Module}
use Rattle.model_loader.specs.Machine.{Machine}
use Rattle.model_loader.specs.Use.{AreUnused, without_all}
use Rattle.model_loader.specs.Sound.{entry_names}
use Rattle.model_unload.specs.Unload.{unload_all}
use Rattle.laws_closed_plans.specs.Binding.{names_of}
use Rattle.laws_closed_plans.specs.Loads.{load_all}

-- The places of the entries that the loads of these modules add to a machine, youngest first.
abbrev pub added : Machine → List Module → List ℕ
added machine ms = reverse (range_with_len (length machine.entries) (length ms))

-- Loads are undone: removed youngest first, none of the modules that were loaded is used, and the
-- machine from before the loads is left.
abbrev pub LoadsAreUndone : Type 0
LoadsAreUndone =
    (machine after : Machine) (ms : List Module) → load_all machine ms ≡ Ok after
    → AreUnused after (added machine ms) × (without_all after (added machine ms) ≡ machine)

-- Loads are undone by names: none of the modules that were loaded is refused when it is removed.
abbrev pub LoadsAreUnloaded : Type 0
LoadsAreUnloaded =
    (machine after : Machine) (ms : List Module) → load_all machine ms ≡ Ok after
    → IsDistinct bytes_eq (entry_names after)
    → unload_all after (reverse (names_of ms)) ≡ Ok machine
