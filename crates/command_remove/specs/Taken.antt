-- Steps of a removal, none of which is refused. Only private contracts cite this file.
use Rattle.std.specs.Prelude.{◌≡◌, ◌≤◌, ℕ, List, map, length}
use Rattle.std.specs.List.{IsDistinct}
use Rattle.std.specs.Str.{bytes_eq}
use Rattle.model_loader.specs.Machine.{Machine}
use Rattle.model_loader.specs.Sound.{entry_names}
use Rattle.model_loader.specs.Use.{AreUnused, name_at}
use Rattle.model_unload.specs.Unload.{AreFallingFrom}
use Rattle.remove_plan.specs.declared.step.RemoveStep.{RemoveStep}
use Rattle.command_remove.specs.Remove.{step_name}

-- The modules of the steps are at places below a number, each below the ones before it, and none is
-- used at its turn. No two modules of the machine have one name.
pub record CanBeTakenOut (machine : Machine) (end : ℕ) (steps : List RemoveStep) : Type 0 where
  pub places : List ℕ
  pub named : map step_name steps ≡ map (name_at machine) places
  pub falling : AreFallingFrom end places
  pub within : end ≤ length machine.entries
  pub unused : AreUnused machine places
  pub names : IsDistinct bytes_eq (entry_names machine)
