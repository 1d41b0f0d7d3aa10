-- The table that a machine keeps of exported names.
-- It belongs to the code: no public meaning rests on it.
use Rattle.std.specs.Prelude.{◌≡◌, ℕ, List}
use Rattle.export_table.specs.declared.standing.ExportTable.{ExportTable}
use Rattle.export_table.specs.Standing.{standing_of}
use Rattle.model_loader.specs.Machine.{Machine, table}

-- The table has what a machine keeps of each name.
pub record Keeps (t : ExportTable) (machine : Machine) : Type 0 where
  pub at : (x : List ℕ) → standing_of t x ≡ table machine x
