-- The attributes of sections, and the section that has the names of all. gABI 4, "Sections",
-- "Special Sections".
use Rattle.std.specs.Prelude.{ℕ, List, ◌∷◌, ◌++◌, map, codes}
use Rattle.std.specs.List.{flat_map}
use Rattle.elf_format.specs.declared.section.TheConstants.{SHT_STRTAB}
use Rattle.elf_write.specs.declared.part.Attributes.{Attributes}
use Rattle.elf_write.specs.declared.part.Part.{Part}
use Rattle.elf_write.specs.Number.{with_nul}

-- The attributes of a section of bytes, by its type, flags and alignment.
abbrev pub plain : ℕ → ℕ → ℕ → Attributes
plain kind flags align =
    record { kind = kind; flags = flags; link = 0; info = 0; align = align; entry_size = 0 }

-- The attributes of a section of entries of 24 bytes, by its type and flags, the section that
-- belongs to it, and its further number.
abbrev pub table : ℕ → ℕ → ℕ → ℕ → Attributes
table kind flags link info =
    record { kind = kind; flags = flags; link = link; info = info; align = 8; entry_size = 24 }

-- The names of sections, each with its NUL, after an empty one.
abbrev pub section_names : List (List ℕ) → List ℕ
section_names names = 0 ∷ flat_map with_nul names

-- The sections with one that has the names of all of them, between the sections before it and those
-- after it.
abbrev pub with_names : List Part → List Part → List Part
with_names before after =
    let names
    = map (λ (p : Part). p.name) before ++ codes ".shstrtab"
    ∷ map (λ (p : Part). p.name) after in
    before
    ++ record {
      name = codes ".shstrtab";
      attributes = plain SHT_STRTAB 0 1;
      content = section_names names;
    }
    ∷ after
