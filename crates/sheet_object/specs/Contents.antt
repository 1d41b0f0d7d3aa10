-- The contents of the sections of a sheet's object. gABI 4, "Symbol Table", "Relocation", "String
-- Table"; x86-64 psABI, "Relocation"; the kernel's include/linux/module.h for `__versions`.
use Rattle.std.specs.Prelude.{ℕ, ◌+◌, ◌*◌, ◌-◌, List, [], ◌∷◌, ◌++◌, length}
use Rattle.std.specs.List.{flat_map}
use Rattle.std.specs.Int.{w64, cast_unsigned}
use Rattle.sheet_object.specs.declared.sheet.Sheet.{Sheet}
use Rattle.sheet_object.specs.declared.sheet.SheetMore.{SheetMore}
use Rattle.sheet_object.specs.declared.sheet.SheetPlace.{SheetPlace}
use Rattle.sheet_object.specs.declared.sheet.SheetVersion.{SheetVersion}
use Rattle.elf_write.specs.Number.{word, xword, zeros, with_nul}
use Rattle.sheet_object.specs.Symbols.{symbols, symbol_number, names_bytes, entries_bytes}

-- The content of `.text`: 16 bytes for each export.
abbrev pub text_bytes : Sheet → List ℕ
text_bytes s = zeros (16 * length s.exports)

-- The content of `.data`: 8 bytes for each place, which is a relocated word.
abbrev pub data_bytes : Sheet → List ℕ
data_bytes s = zeros (8 * length s.places)

-- The content of `.modinfo`: each text with its NUL. modinfo(8).
abbrev pub modinfo_bytes : Sheet → List ℕ
modinfo_bytes s = flat_map with_nul s.texts

-- An entry of 64 bytes: the version, and the name filled up with zeros. The kernel's
-- include/linux/module.h, struct modversion_info.
abbrev pub version_bytes : SheetVersion → List ℕ
version_bytes v = xword v.crc ++ v.name ++ zeros (56 - length v.name)

-- The content of `__versions`: the entries of all versions. The kernel's include/linux/module.h,
-- struct modversion_info.
abbrev pub versions_bytes : Sheet → List ℕ
versions_bytes s = flat_map version_bytes s.versions

-- The relocation of the word k. Elf64_Rela.
abbrev pub place_bytes : Sheet → SheetMore → ℕ → SheetPlace → List ℕ
place_bytes s m k p =
    xword (8 * k) ++ word p.kind ++ word (symbol_number s m p.symbol)
    ++ xword (cast_unsigned w64 p.addend)

-- The relocations of the words from k on.
abbrev pub places_bytes : Sheet → SheetMore → ℕ → List SheetPlace → List ℕ
places_bytes s m k [] = []
places_bytes s m k (p ∷ places) = place_bytes s m k p ++ places_bytes s m (k + 1) places

-- The content of `.rela.data`: the relocations of all words. gABI 4, "Relocation".
unfoldable pub rela_bytes : Sheet → SheetMore → List ℕ
rela_bytes s m = places_bytes s m 0 s.places

-- The content of `.symtab`: an entry of zeros, and then the entries of the symbols, whose names are
-- after the empty one. gABI 4, "Symbol Table".
unfoldable pub symtab_bytes : Sheet → SheetMore → List ℕ
symtab_bytes s m = zeros 24 ++ entries_bytes 1 (symbols s m)

-- The content of `.strtab`: the empty name, and then the names of the symbols. gABI 4, "String
-- Table".
unfoldable pub strtab_bytes : Sheet → SheetMore → List ℕ
strtab_bytes s m = 0 ∷ names_bytes (symbols s m)
