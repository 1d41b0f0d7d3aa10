-- What the tests of places say of one place of a file.
use Rattle.std.specs.Prelude.{◌≡◌, ◌≢◌, ℕ, ◌+◌, ◌^◌, ◌<◌, ◌≤◌, true, false, List, length}
use Rattle.elf_format.specs.declared.section.TheConstants.{SHT_NOBITS}
use Rattle.elf_format.specs.Relocation.{IsKnown}
use Rattle.elf_object.specs.declared.place.RelaPlace.{RelaPlace}
use Rattle.elf_sections.specs.Shape.{section_count}
use Rattle.elf_sections.specs.Sections.{section_of, sections_of}
use Rattle.elf_object.specs.Symbols.{symbols_of}
use Rattle.elf_object.specs.Places.{is_unkept, place_width}

-- The place passed its tests, and its target is a kept section of the file.
pub record IsInSection (b : List ℕ) (p : RelaPlace) : Type 0 where
  pub known : IsKnown p.kind
  pub target : p.target < section_count b
  pub near : p.target < 2 ^ 16
  pub symbol : p.symbol < length (symbols_of b)
  pub kept : (section_of b p.target).kept ≡ true
  pub bytes : 0 < place_width p → (section_of b p.target).kind ≢ SHT_NOBITS
  pub within : 0 < place_width p → p.offset + place_width p ≤ (section_of b p.target).size
  pub in_file : 0 < place_width p → (section_of b p.target).size ≤ length b
  pub linked : 0 < place_width p → is_unkept (sections_of b) (symbols_of b) p.symbol ≡ false
