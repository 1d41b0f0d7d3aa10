-- The exports of a kernel and of loaded modules, at their addresses. The kernel's find_symbol,
-- kernel/module/main.c.
use Rattle.std.specs.Prelude.{ℕ, List, find, Option, is_none, option_map, unwrap_or}
use Rattle.std.specs.Str.{bytes_eq}
use Rattle.symbol_binding.specs.Symbols.{Export}
use Rattle.kernel_exports.specs.declared.kernel.KernelExport.{KernelExport}
use Rattle.load_fault.specs.declared.fault.MachineFault.{MachineFault}
use Rattle.load_fault.specs.declared.fault.MachineFault.TheVariants.{KernelWithoutAddress}
use Rattle.export_table.specs.declared.placed.PlacedExport.{PlacedExport}
use Rattle.export_table.specs.declared.standing.Standing.{Standing}

-- Why a kernel has no machine: its first export without an address.
abbrev pub kernel_fault : List KernelExport → Option MachineFault
kernel_fault exports =
    option_map (λ e. KernelWithoutAddress e.name) (find (λ e. is_none e.address) exports)

-- An export of the kernel at its address.
abbrev pub kernel_placed : KernelExport → PlacedExport
kernel_placed e =
    record {
      name = e.name;
      crc = e.crc;
      gpl = e.gpl;
      space = e.space;
      address = unwrap_or e.address 0;
    }

-- The export of this name.
abbrev pub export_named : List ℕ → List PlacedExport → Option PlacedExport
export_named x exports = find (λ e. bytes_eq e.name x) exports

-- What a table has of an export of an owner, which is a module by its name or the kernel.
abbrev pub standing : Option (List ℕ) → PlacedExport → Standing
standing owner e =
    record { crc = e.crc; gpl = e.gpl; space = e.space; address = e.address; owner = owner }

-- The export of this name, by what a table has of it.
abbrev pub standing_export : List ℕ → Standing → Export
standing_export x s = record { name = x; crc = s.crc; gpl = s.gpl; space = s.space }
