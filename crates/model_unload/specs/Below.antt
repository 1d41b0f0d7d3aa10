-- A module that is removed at its turn, where modules are removed from the youngest to the oldest.
-- delete_module(2).
use Rattle.std.specs.Prelude.{◌≡◌, ◌≤◌, ◌<◌, ℕ, List, length, Some}
use Rattle.std.specs.List.{IsDistinct}
use Rattle.std.specs.Str.{bytes_eq}
use Rattle.model_loader.specs.Machine.{Machine}
use Rattle.model_loader.specs.Sound.{entry_names}
use Rattle.model_loader.specs.Use.{IsUnused}
use Rattle.model_unload.specs.Unload.{place_of}

-- The module of this name is below a place, and no entry binds to it. No two entries have one name.
pub record IsUnusedBelow (machine : Machine) (end : ℕ) (name : List ℕ) : Type 0 where
  pub place : ℕ
  pub found : place_of machine name ≡ Some place
  pub below : place < end
  pub within : end ≤ length machine.entries
  pub unused : IsUnused machine place
  pub names : IsDistinct bytes_eq (entry_names machine)
