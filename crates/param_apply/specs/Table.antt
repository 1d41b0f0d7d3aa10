-- The table of a module's parameters, in its image. The kernel's include/linux/moduleparam.h,
-- struct kernel_param, has an entry for each parameter. An entry has 40 bytes, with the address of
-- the name at 0 and the address of the value at 32. This is the project's own reading of it.
use Rattle.std.specs.Prelude.{ℕ, ◌+◌, ◌-◌, ◌*◌, ◌/◌, ◌%◌, ◌^◌, ◌==◌, not, if◌then◌else◌, List, []}
use Rattle.std.specs.Prelude.{◌∷◌, ◌++◌, length, map, slice_get, codes, Option, is_none, unwrap_or}
use Rattle.std.specs.List.{position, range_with_len}
use Rattle.std.specs.Option.{option_map_or}
use Rattle.std.specs.Str.{bytes_eq}
use Rattle.elf_sections.specs.declared.section.Section.{Section}
use Rattle.elf_object.specs.Object.{FileObject}
use Rattle.elf_sections.specs.Sections.{bytes_of}
use Rattle.elf_sections.specs.Shape.{each, fault_if}
use Rattle.image_layout.specs.Offsets.{offset}
use Rattle.km_names.specs.First.{first}
use Rattle.km_names.specs.Number.{le}
use Rattle.km_names.specs.Strings.{string_at}
use Rattle.param_apply.specs.declared.fault.ParamFault.{ParamFault}
use Rattle.param_apply.specs.declared.fault.ParamFault.TheVariants.{BadParamTable}
use Rattle.param_apply.specs.declared.table.ParamTable.{ParamTable}

-- A section as a table, at its place of the image: as many bytes as it has in the file. A section
-- that isn't in memory is an empty table.
abbrev pub table_at : FileObject → ℕ → Section → ParamTable
table_at o at s =
    if s.kept
    then record { at = at; size = length (bytes_of o.file s) }
    else record { at = 0; size = 0 }

-- The table of an object: the first section named `__param`, and an empty one if there is none.
unfoldable pub table_of : FileObject → ParamTable
table_of o =
    option_map_or
    (λ i. option_map_or (table_at o (offset o.sections i)) (slice_get o.sections i)
    (record { at = 0; size = 0 }))
    (position (λ s. bytes_eq s.name (codes "__param")) o.sections) (record { at = 0; size = 0 })

-- The number of its whole entries.
abbrev pub entry_count : ParamTable → ℕ
entry_count t = t.size / 40

-- The place in an image at a base whose address is in the word at q of the image, modulo 2^64.
unfoldable pub place_of : List ℕ → ℕ → ℕ → ℕ
place_of image base q = (le image q 8 + 2 ^ 64 - base) % 2 ^ 64

-- The name of the entry k: the bytes from its place up to a NUL, if one follows in the image.
unfoldable pub entry_name : List ℕ → ℕ → ParamTable → ℕ → Option (List ℕ)
entry_name image base t k = string_at image (place_of image base (t.at + 40 * k))

-- The test of the entry k: its name is in the image.
abbrev pub entry_fault : List ℕ → ℕ → ParamTable → ℕ → Option ParamFault
entry_fault image base t k = fault_if (is_none (entry_name image base t k)) (BadParamTable k)

-- The test that the last entry is whole.
abbrev pub end_fault : ParamTable → Option ParamFault
end_fault t = fault_if (not (t.size % 40 == 0)) (BadParamTable (entry_count t))

-- The fault of the table: the first of these tests that fails.
unfoldable pub table_fault : List ℕ → ℕ → ParamTable → Option ParamFault
table_fault image base t =
    first (each (entry_count t) (entry_fault image base t) ++ end_fault t ∷ [])

-- An entry of a table without fault: its name, and the place of its value.
pub record Entry : Type 0 where
  pub name : List ℕ
  pub at : ℕ

abbrev pub entry : List ℕ → ℕ → ParamTable → ℕ → Entry
entry image base t k = record {
  name = unwrap_or (entry_name image base t k) [];
  at = place_of image base (t.at + 40 * k + 32);
}

-- The entries, in order.
unfoldable pub entries : List ℕ → ℕ → ParamTable → List Entry
entries image base t = map (entry image base t) (range_with_len 0 (entry_count t))
