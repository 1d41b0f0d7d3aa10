-- The image of a module at a base: the bytes of its sections, with the word of each relocation at
-- its place. x86-64 psABI, "Relocation".
use Rattle.std.specs.Prelude.{ℕ, ◌+◌, ◌%◌, ◌^◌, List, map, slice_index, Option, option_map}
use Rattle.elf_object.specs.declared.place.RelaPlace.{RelaPlace}
use Rattle.elf_object.specs.Object.{FileObject}
use Rattle.x86_relocate.specs.declared.patch.Patch.{Patch}
use Rattle.x86_relocate.specs.declared.patch.Overflow.{Overflow}
use Rattle.x86_relocate.specs.Patched.{patched, first_too_wide, overflow_of}
use Rattle.image_layout.specs.Offsets.{offset}
use Rattle.image_layout.specs.Plain.{plain_image}

-- The patch of a relocation, in an image at a base, by the addresses of the symbols. A place that
-- changes no byte may be past everything, so places are modulo 2^64.
unfoldable pub patch_of : FileObject → ℕ → List ℕ → RelaPlace → Patch
patch_of o base addresses p =
    let at = offset o.sections p.target + p.offset in
    record {
      section = p.section;
      entry = p.entry;
      at = at % 2 ^ 64;
      kind = p.kind;
      s = slice_index addresses p.symbol;
      a = p.addend;
      p = (base + at) % 2 ^ 64;
    }

-- The words of all relocations, by rising section, then by entry.
abbrev pub patches : FileObject → ℕ → List ℕ → List Patch
patches o base addresses = map (patch_of o base addresses) o.places

-- The image of a module at a base, by the addresses of its symbols.
unfoldable pub laid : FileObject → ℕ → List ℕ → List ℕ
laid o base addresses = patched (plain_image o) (patches o base addresses)

-- The first relocation whose word doesn't fit.
unfoldable pub overflow : FileObject → ℕ → List ℕ → Option Overflow
overflow o base addresses = option_map overflow_of (first_too_wide (patches o base addresses))
