-- The parts of an entry and of a machine, as the code makes them.
-- It belongs to the code: no public meaning rests on it.
use Rattle.std.specs.Prelude.{◌≡◌, ℕ, List, length, map}
use Rattle.module_facts.specs.declared.module.Module.{Module}
use Rattle.model_loader.specs.declared.entry.Entry.{Entry}
use Rattle.module_region.specs.declared.region.Region.{Region}
use Rattle.export_table.specs.declared.standing.ExportTable.{ExportTable}
use Rattle.export_table.specs.Standing.{placed_by}
use Rattle.model_loader.specs.Machine.{Machine}
use Rattle.model_loader.specs.Standing.{Keeps}
use Rattle.model_loader.specs.Step.{bound_need}

-- The entry of a module at a base, by its image and the addresses of its symbols.
abbrev pub entry_by : Module → ℕ → List ℕ → List ℕ → Entry
entry_by m base image addresses = record {
  loaded = record { name = m.facts.name; base = base; size = length image };
  image = image;
  free = m.facts.free;
  imports = m.facts.imports;
  exports = map (placed_by addresses) m.facts.exports;
  needs = map bound_need m.facts.needs;
}

-- A machine has these parts.
pub record HasParts (machine : Machine) (region : Region) (entries : List Entry) (t : ExportTable) :
    Type 0 where
  pub region_is : machine.region ≡ region
  pub entries_are : machine.entries ≡ entries
  pub keeps : Keeps t machine
