-- The invariant of a machine's parts.
use Rattle.std.specs.Prelude.{All}
use Rattle.std.specs.List.{IsDistinct}
use Rattle.std.specs.Str.{bytes_eq}
use Rattle.export_table.specs.declared.standing.ExportTable.{ExportTable}
use Rattle.model_loader.specs.Machine.{Machine}
use Rattle.model_loader.specs.Sound.{IsPlaced, entry_names, exported_names}
use Rattle.model_loader.specs.Standing.{Keeps}

-- The table keeps the export of each name, no two modules have one name, no name is exported twice,
-- and each image lies in the region on whole pages.
pub record IsKept (machine : Machine) (t : ExportTable) : Type 0 where
  pub keeps : Keeps t machine
  pub names : IsDistinct bytes_eq (entry_names machine)
  pub exports : IsDistinct bytes_eq (exported_names machine)
  pub placed : All (IsPlaced machine) machine.entries
