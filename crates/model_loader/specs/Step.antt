-- A load: why a machine refuses a module, and the machine with the module. The kernel's load_module
-- and resolve_symbol, kernel/module/main.c.
use Rattle.std.specs.Prelude.{ℕ, ◌/◌, ◌-◌, ◌^◌, ◌==◌, nat_lt, List, [], ◌∷◌, ◌++◌, map, find}
use Rattle.std.specs.Prelude.{length, Option, is_none, option_map, unwrap_or}
use Rattle.std.specs.Prelude.{option_and_then, Result, Ok, Err, if◌then◌else◌}
use Rattle.std.specs.List.{range_with_len}
use Rattle.std.specs.Option.{option_map_or}
use Rattle.elf_format.specs.declared.section.TheConstants.{PAGE}
use Rattle.km_names.specs.First.{first}
use Rattle.elf_sections.specs.Shape.{fault_if}
use Rattle.module_symbols.specs.declared.exports.Export.{Export as FactsExport}
use Rattle.module_symbols.specs.declared.needs.Need.{Need as FactsNeed}
use Rattle.module_facts.specs.declared.facts.Facts.{Facts}
use Rattle.module_facts.specs.declared.module.Module.{Module}
use Rattle.symbol_binding.specs.Needs.{NeedTest, is_seen, is_missing, is_hidden, is_other_version}
use Rattle.symbol_binding.specs.Needs.{is_barred}
use Rattle.symbol_binding.specs.Unmet.{vmlinux}
use Rattle.x86_relocate.specs.declared.patch.Overflow.{Overflow as TooWide}
use Rattle.image_layout.specs.Offsets.{image_size}
use Rattle.image_layout.specs.Symbols.{address, addresses}
use Rattle.image_layout.specs.Laid.{laid, overflow}
use Rattle.load_fault.specs.declared.fault.LoadFault.{LoadFault}
use Rattle.load_fault.specs.declared.fault.LoadFault.TheVariants.{AlreadyLoaded, MissingSymbol}
use Rattle.load_fault.specs.declared.fault.LoadFault.TheVariants.{GplOnly, VersionDiffers}
use Rattle.load_fault.specs.declared.fault.LoadFault.TheVariants.{NotImported, ExportTaken}
use Rattle.load_fault.specs.declared.fault.LoadFault.TheVariants.{RegionFull, Overflow}
use Rattle.export_table.specs.declared.placed.PlacedExport.{PlacedExport}
use Rattle.model_loader.specs.declared.entry.BoundNeed.{BoundNeed}
use Rattle.model_loader.specs.declared.entry.Entry.{Entry}
use Rattle.model_loader.specs.Machine.{Machine, bound_export, facts_face, facts_need, is_loaded}
use Rattle.model_loader.specs.Machine.{table}
use Rattle.model_loader.specs.Gap.{gap}

-- The address of a need: the address of its export, if there is one that the module sees, and
-- otherwise 0.
abbrev pub need_address : Machine → Facts → FactsNeed → ℕ
need_address machine f n =
    option_map_or (λ s. if is_seen f.free s.gpl then s.address else 0) (table machine n.name) 0

-- The address of the symbol k if it is defined elsewhere: the address of the need that it states.
-- Symbol 0 and `_GLOBAL_OFFSET_TABLE_` state none, and have 0.
abbrev pub given_address : Machine → Facts → ℕ → ℕ
given_address machine f k =
    option_map_or (need_address machine f) (find (λ n. n.symbol == k) f.needs) 0

-- The addresses of all symbols of a module that are defined elsewhere.
unfoldable pub given_addresses : Machine → Module → List ℕ
given_addresses machine m =
    map (given_address machine m.facts) (range_with_len 0 (length m.object.symbols))

-- The addresses of all symbols of a module whose image is at a base.
abbrev pub symbol_addresses : Machine → Module → ℕ → List ℕ
symbol_addresses machine m base = addresses m.object base (given_addresses machine m)

-- The size of the image of a module in bytes.
abbrev pub module_size : Module → ℕ
module_size m = image_size m.object.sections

-- A number of pages as a refusal states it: 2^64 - 1 for any greater one.
abbrev pub named_pages : ℕ → ℕ
named_pages n = if nat_lt n (2 ^ 64) then n else 2 ^ 64 - 1

-- The test that no need of a module fails the test of needs.
abbrev pub need_test : Machine → Facts → NeedTest → (List ℕ → LoadFault) → Option LoadFault
need_test machine f test fault =
    option_map (λ n. fault n.name)
    (find (λ n. test (bound_export machine n.name) (facts_face f) (facts_need n)) f.needs)

-- The test that the name of an export isn't bound yet.
abbrev pub taken_test : Machine → FactsExport → Option LoadFault
taken_test machine e =
    option_map (λ s. ExportTaken e.name (unwrap_or s.owner vmlinux)) (table machine e.name)

-- The tests of the names of a module, in order.
abbrev pub name_tests : Machine → Facts → List (Option LoadFault)
name_tests machine f =
    fault_if (is_loaded machine f.name) AlreadyLoaded
    ∷ need_test machine f is_missing MissingSymbol
    ∷ need_test machine f is_hidden GplOnly
    ∷ need_test machine f is_other_version VersionDiffers
    ∷ need_test machine f is_barred NotImported
    ∷ first (map (taken_test machine) f.exports)
    ∷ []

-- The first word of a module at a base that doesn't fit.
abbrev pub overflow_fault : Machine → Module → ℕ → Option LoadFault
overflow_fault machine m base =
    option_map (λ (o : TooWide). Overflow o.section o.entry)
    (overflow m.object base (symbol_addresses machine m base))

-- The tests of the place of a module, in order: the region has a gap for it, and all words fit
-- there.
abbrev pub placement_tests : Machine → Module → List (Option LoadFault)
placement_tests machine m =
    fault_if (is_none (gap machine (module_size m)))
    (RegionFull (named_pages (module_size m / PAGE)))
    ∷ option_and_then (overflow_fault machine m) (gap machine (module_size m))
    ∷ []

-- The refusal of a module: the first of eight tests that fails.
unfoldable pub refusal : Machine → Module → Option LoadFault
refusal machine m = first (name_tests machine m.facts ++ placement_tests machine m)

-- An export of a module at the address of its symbol.
abbrev pub placed_export : Machine → Module → ℕ → FactsExport → PlacedExport
placed_export machine m base e = record {
  name = e.name;
  crc = e.crc;
  gpl = e.gpl;
  space = e.space;
  address = address m.object base (given_addresses machine m) e.symbol;
}

-- A need of a module, without the number of its symbol.
abbrev pub bound_need : FactsNeed → BoundNeed
bound_need n = record { name = n.name; weak = n.weak; crc = n.crc }

-- The entry of a module at a base, over a machine.
unfoldable pub entry_at : Machine → Module → ℕ → Entry
entry_at machine m base = record {
  loaded = record { name = m.facts.name; base = base; size = module_size m };
  image = laid m.object base (symbol_addresses machine m base);
  free = m.facts.free;
  imports = m.facts.imports;
  exports = map (placed_export machine m base) m.facts.exports;
  needs = map bound_need m.facts.needs;
}

-- The machine with one more entry at its end.
abbrev pub with_entry : Machine → Entry → Machine
with_entry machine e = record machine { entries = machine.entries ++ e ∷ [] }

-- The base of a module that isn't refused.
abbrev pub module_base : Machine → Module → ℕ
module_base machine m = unwrap_or (gap machine (module_size m)) 0

-- A step: the refusal, or the machine with the entry of the module in the lowest gap.
unfoldable pub step : Machine → Module → Result Machine LoadFault
step machine m =
    option_map_or Err (refusal machine m)
    (Ok (with_entry machine (entry_at machine m (module_base machine m))))
