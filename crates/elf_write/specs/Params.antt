-- The object of a module with only parameters. The kernel's include/linux/moduleparam.h; gABI 4,
-- "Sections", "Symbol Table", "Relocation".
use Rattle.std.specs.Prelude.{ℕ, ◌+◌, ◌*◌, List, [], ◌∷◌, ◌++◌, length, take, codes}
use Rattle.std.specs.List.{flat_map, range_with_len}
use Rattle.elf_format.specs.declared.section.TheConstants.{SHT_PROGBITS, SHT_RELA, SHT_SYMTAB}
use Rattle.elf_format.specs.declared.section.TheConstants.{SHT_STRTAB, SHF_WRITE, SHF_ALLOC}
use Rattle.elf_format.specs.declared.section.TheConstants.{SHF_INFO_LINK}
use Rattle.elf_format.specs.declared.relocation.TheConstants.{R_X86_64_64}
use Rattle.elf_write.specs.declared.part.Part.{Part}
use Rattle.elf_write.specs.declared.params.SheetParam.{SheetParam}
use Rattle.elf_write.specs.Number.{half, word, xword, zeros, with_nul}
use Rattle.elf_write.specs.File.{file_of}
use Rattle.elf_write.specs.Part.{plain, table, with_names}

-- The names of parameters, each with its NUL.
abbrev pub names_of_params : List SheetParam → List ℕ
names_of_params ps = flat_map (λ (p : SheetParam). with_nul p.name) ps

-- The content of `.data`, section 1: 8 bytes for each value, and then the names.
abbrev pub param_data : List SheetParam → List ℕ
param_data ps = zeros (8 * length ps) ++ names_of_params ps

-- The place in `.data` of the name of the parameter k.
abbrev pub name_place : List SheetParam → ℕ → ℕ
name_place ps k = 8 * length ps + length (names_of_params (take k ps))

-- A text of `.modinfo`, section 3: the type of a parameter.
abbrev pub type_text : SheetParam → List ℕ
type_text p = codes "parmtype=" ++ p.name ++ codes ":" ++ p.kind ++ 0 ∷ []

-- A relocation of the word at an offset of `__param`: the address of a place in `.data`, by the
-- symbol 1. Elf64_Rela.
unfoldable pub data_address : ℕ → ℕ → List ℕ
data_address offset place = xword offset ++ word R_X86_64_64 ++ word 1 ++ xword place

-- The relocations of the entry k, which has 40 bytes: the address of its name at 0, and the address
-- of its value at 32.
abbrev pub entry_addresses : List SheetParam → ℕ → List ℕ
entry_addresses ps k = data_address (40 * k) (name_place ps k) ++ data_address (40 * k + 32) (8 * k)

-- The content of `.rela__param`, section 4: the relocations of all entries.
abbrev pub addresses_of_params : List SheetParam → List ℕ
addresses_of_params ps = flat_map (entry_addresses ps) (range_with_len 0 (length ps))

-- The content of `.symtab`, section 5: an entry of zeros, and the symbol of the section `.data`,
-- which has no name. Elf64_Sym.
unfoldable pub section_symbol : List ℕ
section_symbol = zeros 24 ++ word 0 ++ 3 ∷ 0 ∷ half 1 ++ zeros 16

-- The sections 1 to 3: values and names, the entries, and the texts.
unfoldable pub loaded_param_parts : List SheetParam → List Part
loaded_param_parts ps =
    record {
      name = codes ".data";
      attributes = plain SHT_PROGBITS (SHF_WRITE + SHF_ALLOC) 8;
      content = param_data ps;
    }
    ∷ record {
      name = codes "__param";
      attributes = plain SHT_PROGBITS SHF_ALLOC 8;
      content = zeros (40 * length ps);
    }
    ∷ record {
      name = codes ".modinfo";
      attributes = plain SHT_PROGBITS SHF_ALLOC 1;
      content = flat_map type_text ps;
    }
    ∷ []

-- The sections 4 to 6: these relocations of the entries, the symbols, and their names.
unfoldable pub linked_param_parts : List ℕ → List Part
linked_param_parts addresses =
    record {
      name = codes ".rela__param";
      attributes = table SHT_RELA SHF_INFO_LINK 5 2;
      content = addresses;
    }
    ∷ record
    { name = codes ".symtab"; attributes = table SHT_SYMTAB 0 6 2; content = section_symbol }
    ∷ record { name = codes ".strtab"; attributes = plain SHT_STRTAB 0 1; content = 0 ∷ [] }
    ∷ []

-- The object file of parameters: these sections, and section 7 with the names of all.
unfoldable pub param_object_of : List SheetParam → List ℕ
param_object_of ps =
    file_of 7 (with_names (loaded_param_parts ps ++ linked_param_parts (addresses_of_params ps)) [])
