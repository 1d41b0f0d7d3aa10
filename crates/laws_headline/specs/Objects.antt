-- A folder with two object files of modules, one using the other, and what they state. gABI 4, "ELF
-- Header", "Sections", "Symbol Table", "Relocation".
use Rattle.std.specs.Prelude.{ℕ, zero, suc, ◌%◌, ◌/◌, false, List, [], ◌∷◌, flat_map, codes, None}
use Rattle.std.specs.FinMap.{empty, insert}
use Rattle.km_names.specs.Path.{path_below}
use Rattle.outside_calls.specs.Contents.{Contents}
use Rattle.module_facts.specs.declared.facts.Facts.{Facts}

-- ---- object files

-- A number in this many bytes, the least first.
abbrev pub number : ℕ → ℕ → List ℕ
number zero v = []
number (suc count) v = v % 256 ∷ number count (v / 256)

-- Some lists of bytes, one after the other.
abbrev pub joined : List (List ℕ) → List ℕ
joined parts = flat_map (λ part. part) parts

-- The header of an object file for x86-64, whose section headers begin at a place; the section of
-- this number names sections.
abbrev pub elf_header : ℕ → ℕ → ℕ → List ℕ
elf_header place count strings = joined (
    (0x7f ∷ codes "ELF")
    ∷ (2 ∷ 1 ∷ 1 ∷ number 9 0)
    ∷ number 2 1
    ∷ number 2 62
    ∷ number 4 1
    ∷ number 16 0
    ∷ number 8 place
    ∷ number 4 0
    ∷ number 2 64
    ∷ number 4 0
    ∷ number 2 64
    ∷ number 2 count
    ∷ number 2 strings
    ∷ [])

-- The header of a section without a name: its kind, flags, place and size, the numbers that it
-- links to, its alignment, and the size of its entries.
abbrev pub section : ℕ → ℕ → ℕ → ℕ → ℕ → ℕ → ℕ → ℕ → List ℕ
section kind flags place size link info align entry = joined (
    number 4 0
    ∷ number 4 kind
    ∷ number 8 flags
    ∷ number 8 0
    ∷ number 8 place
    ∷ number 8 size
    ∷ number 4 link
    ∷ number 4 info
    ∷ number 8 align
    ∷ number 8 entry
    ∷ [])

-- A symbol: the place of its name, its binding and type, its section, its value and its size.
abbrev pub symbol : ℕ → ℕ → ℕ → ℕ → ℕ → List ℕ
symbol name kind in_section value size =
    joined (number 4 name ∷ (kind ∷ 0 ∷ number 2 in_section) ∷ number 8 value ∷ number 8 size ∷ [])

-- A module that exports `x`, 8 bytes of data: its data, symbols, strings and section headers.
abbrev pub giver_file : List ℕ
giver_file = joined (
    elf_header 160 4 3
    ∷ number 8 0
    ∷ symbol 0 0 0 0 0
    ∷ symbol 3 0 1 0 0
    ∷ symbol 1 17 1 0 8
    ∷ (0 ∷ codes "x")
    ∷ (0 ∷ codes "__ksymtab_x")
    ∷ (0 ∷ 0 ∷ [])
    ∷ section 0 0 0 0 0 0 0 0
    ∷ section 1 3 64 8 0 0 8 0
    ∷ section 2 0 72 72 3 2 8 24
    ∷ section 3 0 144 15 0 0 1 0
    ∷ [])

-- A module that needs `x`, whose 8 bytes of data are to be its address: its data, symbols, strings,
-- the relocation and section headers.
abbrev pub taker_file : List ℕ
taker_file = joined (
    elf_header 152 5 3
    ∷ number 8 0
    ∷ symbol 0 0 0 0 0
    ∷ symbol 1 16 0 0 0
    ∷ (0 ∷ codes "x")
    ∷ number 6 0
    ∷ number 8 0
    ∷ number 8 0x100000001
    ∷ number 8 0
    ∷ section 0 0 0 0 0 0 0 0
    ∷ section 1 3 64 8 0 0 8 0
    ∷ section 2 0 72 48 3 1 8 24
    ∷ section 3 0 120 3 0 0 1 0
    ∷ section 4 0 128 24 2 1 8 24
    ∷ [])

-- ---- the folder

-- The folder of the modules, beside a System.map that states nothing.
abbrev pub folder_found : List ℕ
folder_found = codes "/lib/modules/1"

abbrev pub found : Contents
found =
    insert
    (insert (insert empty (codes "/S") []) (path_below folder_found (codes "p.ko")) giver_file)
    (path_below folder_found (codes "m.ko")) taker_file

-- ---- what they state

-- What the modules state.
abbrev pub giver_facts : Facts
giver_facts = record {
  path = codes "p.ko";
  name = codes "p";
  exports = record { name = codes "x"; symbol = 2; crc = None; gpl = false; space = [] } ∷ [];
  needs = [];
  aliases = [];
  softdeps = [];
  free = false;
  imports = [];
}

abbrev pub taker_facts : Facts
taker_facts = record {
  path = codes "m.ko";
  name = codes "m";
  exports = [];
  needs = record { name = codes "x"; symbol = 1; weak = false; crc = None } ∷ [];
  aliases = [];
  softdeps = [];
  free = false;
  imports = [];
}

-- What the second stated before it needed `x`.
abbrev pub earlier_facts : Facts
earlier_facts = record {
  path = codes "m.ko";
  name = codes "m";
  exports = [];
  needs = [];
  aliases = [];
  softdeps = [];
  free = false;
  imports = [];
}
