-- What the steps of a removal result in. modprobe(8), `-r`.
use Rattle.std.specs.Prelude.{◌≡◌, ℕ, List, map, None, Ok}
use Rattle.std.specs.List.{IsDistinct}
use Rattle.std.specs.Str.{bytes_eq}
use Rattle.module_facts.specs.declared.module.Module.{Module}
use Rattle.model_loader.specs.Machine.{Machine}
use Rattle.model_loader.specs.Sound.{IsSound, entry_names}
use Rattle.model_loader.specs.Use.{AreUnused, name_at, without_all}
use Rattle.model_unload.specs.Unload.{unload_all}
use Rattle.remove_plan.specs.Removal.{among, in_use, is_asked, items_outside, left_after}
use Rattle.remove_plan.specs.Removal.{removed_by}

-- Unless a module that is asked for is in use, the modules of a removal are removed in their order,
-- and none is used at its turn. The machine with the other modules is left.
abbrev pub RemovalsPass : Type 0
RemovalsPass =
    (machine : Machine) (names : List (List ℕ)) → in_use machine (is_asked machine names) ≡ None
    → AreUnused machine (removed_by machine names)
    × (without_all machine (removed_by machine names) ≡ left_after machine names)

-- Removals by names: none of the modules is refused when it is removed.
abbrev pub RemovalsAreUnloaded : Type 0
RemovalsAreUnloaded =
    (machine : Machine) (names : List (List ℕ)) → IsDistinct bytes_eq (entry_names machine)
    → in_use machine (is_asked machine names) ≡ None
    → unload_all machine (map (name_at machine) (removed_by machine names))
    ≡ Ok (left_after machine names)

-- A sound machine of some modules leaves a sound machine of the ones that aren't removed.
abbrev pub RemovalsStaySound : Type 0
RemovalsStaySound =
    (machine : Machine) (ms : List Module) (names : List (List ℕ)) → IsSound machine ms
    → in_use machine (is_asked machine names) ≡ None
    → IsSound (left_after machine names) (items_outside (among (removed_by machine names)) 0 ms)
