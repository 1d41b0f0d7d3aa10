-- A machine: the symbols of a kernel with their addresses, a region for modules, and the modules
-- that were loaded, oldest first. The kernel's struct module, include/linux/module.h, and
-- find_symbol, kernel/module/main.c.
use Rattle.std.specs.Prelude.{ℕ, Bool, List, [], ◌∷◌, map, Option, None, Some, option_map}
use Rattle.std.specs.List.{list_any}
use Rattle.std.specs.Str.{bytes_eq}
use Rattle.km_names.specs.First.{first}
use Rattle.symbol_binding.specs.Symbols.{Export, Need, Face}
use Rattle.kernel_exports.specs.declared.kernel.Kernel.{Kernel as KernelTable}
-- A module that isn't loaded, by its facts, as symbol binding sees it.
pub use Rattle.provider_rel.specs.Faces.{need_of_facts as facts_need, face_of as facts_face}
-- The exports of a kernel and of modules, at their addresses, and what a table has of them.
pub use Rattle.export_table.specs.Exports.{export_named, kernel_fault, kernel_placed, standing}
pub use Rattle.export_table.specs.Exports.{standing_export}
use Rattle.export_table.specs.declared.placed.PlacedExport.{PlacedExport}
use Rattle.export_table.specs.declared.standing.Standing.{Standing}
use Rattle.model_loader.specs.declared.entry.BoundNeed.{BoundNeed}
use Rattle.model_loader.specs.declared.entry.Entry.{Entry}
use Rattle.module_region.specs.declared.region.Region.{Region}

-- A machine. Each export of its kernel has an address.
pub record Machine : Type 0 where
  pub kernel : KernelTable
  pub region : Region
  pub entries : List Entry

-- The machine of a kernel, with no modules.
abbrev pub new_machine : KernelTable → Region → Machine
new_machine kernel region = record { kernel = kernel; region = region; entries = [] }

-- An export, a need, and the module of an entry, as symbol binding sees them.
abbrev pub export_face : PlacedExport → Export
export_face e = record { name = e.name; crc = e.crc; gpl = e.gpl; space = e.space }

abbrev pub need_face : BoundNeed → Need
need_face n = record { name = n.name; weak = n.weak; crc = n.crc }

abbrev pub entry_face : Entry → Face
entry_face e = record {
  name = e.loaded.name;
  exports = map export_face e.exports;
  needs = map need_face e.needs;
  free = e.free;
  imports = e.imports;
}

-- Whether a module of this name is loaded.
abbrev pub is_loaded : Machine → List ℕ → Bool
is_loaded machine name = list_any (λ e. bytes_eq e.loaded.name name) machine.entries

-- The table of a machine: what a name is bound to, with its address and its owner. It is the
-- kernel's export, and otherwise the export of the module that was loaded first.
unfoldable pub table : Machine → List ℕ → Option Standing
table machine x =
    first (
    option_map (standing None) (export_named x (map kernel_placed machine.kernel.exports))
    ∷ first (map (λ e. option_map (standing (Some e.loaded.name)) (export_named x e.exports))
    machine.entries)
    ∷ [])

-- The export that a name is bound to.
abbrev pub bound_export : Machine → List ℕ → Option Export
bound_export machine x = option_map (standing_export x) (table machine x)
