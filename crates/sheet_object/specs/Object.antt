-- The object of a sheet: its sections, and the file of the sections. gABI 4, "Sections", "Special
-- Sections".
use Rattle.std.specs.Prelude.{ℕ, ◌+◌, List, [], ◌∷◌, ◌++◌, codes}
use Rattle.elf_format.specs.declared.section.TheConstants.{SHT_PROGBITS, SHT_RELA, SHT_SYMTAB}
use Rattle.elf_format.specs.declared.section.TheConstants.{SHT_STRTAB, SHF_WRITE, SHF_ALLOC}
use Rattle.elf_format.specs.declared.section.TheConstants.{SHF_EXECINSTR, SHF_INFO_LINK}
use Rattle.elf_write.specs.declared.part.Part.{Part}
use Rattle.sheet_object.specs.declared.section.TheConstants.{DATA, SECTION_NAMES, SYMTAB, STRTAB}
use Rattle.sheet_object.specs.declared.sheet.Sheet.{Sheet}
use Rattle.sheet_object.specs.declared.sheet.SheetMore.{SheetMore}
use Rattle.sheet_object.specs.Sheet.{no_more}
use Rattle.elf_write.specs.File.{file_of}
use Rattle.elf_write.specs.Part.{plain, table, with_names}
use Rattle.sheet_object.specs.Further.{further_parts}
use Rattle.sheet_object.specs.Symbols.{local_count}
use Rattle.sheet_object.specs.Contents.{text_bytes, data_bytes, modinfo_bytes, versions_bytes}
use Rattle.sheet_object.specs.Contents.{rela_bytes, symtab_bytes, strtab_bytes}

-- The sections 1 to 4, which are loaded: code, words, texts and versions.
unfoldable pub loaded_parts : Sheet → List Part
loaded_parts s =
    record {
      name = codes ".text";
      attributes = plain SHT_PROGBITS (SHF_ALLOC + SHF_EXECINSTR) 16;
      content = text_bytes s;
    }
    ∷ record {
      name = codes ".data";
      attributes = plain SHT_PROGBITS (SHF_WRITE + SHF_ALLOC) 8;
      content = data_bytes s;
    }
    ∷ record {
      name = codes ".modinfo";
      attributes = plain SHT_PROGBITS SHF_ALLOC 1;
      content = modinfo_bytes s;
    }
    ∷ record {
      name = codes "__versions";
      attributes = plain SHT_PROGBITS SHF_ALLOC 32;
      content = versions_bytes s;
    }
    ∷ []

-- The sections 5 to 7, which are for linking: the relocations of the words, the symbols, and their
-- names.
unfoldable pub linked_parts : Sheet → SheetMore → List Part
linked_parts s m =
    record {
      name = codes ".rela.data";
      attributes = table SHT_RELA SHF_INFO_LINK SYMTAB DATA;
      content = rela_bytes s m;
    }
    ∷ record {
      name = codes ".symtab";
      attributes = table SHT_SYMTAB 0 STRTAB (local_count s m);
      content = symtab_bytes s m;
    }
    ∷ record
    { name = codes ".strtab"; attributes = plain SHT_STRTAB 0 1; content = strtab_bytes s m }
    ∷ []

-- The sections of a sheet with its additions.
unfoldable pub parts_of : Sheet → SheetMore → List Part
parts_of s m = with_names (loaded_parts s ++ linked_parts s m) (further_parts m)

-- The object file of a sheet with its additions.
unfoldable pub object_more_of : Sheet → SheetMore → List ℕ
object_more_of s m = file_of SECTION_NAMES (parts_of s m)

-- The object file of a sheet without additions.
abbrev pub object_of : Sheet → List ℕ
object_of s = object_more_of s no_more
