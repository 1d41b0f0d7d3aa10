-- The files that depmod makes of a tree of two modules, computed.
use Rattle.std.proofs.Common.{◌≡◌, ◌∙◌, ℕ, true, List, [], ◌∷◌, codes, refl, ap}
use Rattle.std.specs.Prelude.{None}
use Rattle.std.specs.FinMap.{empty, entries}
use Rattle.std.specs.Ordering.{nat_cmp}
use Rattle.std.specs.Cmp.Lexicographic.{slice_cmp}
use Rattle.index_format.specs.Check.{index_fault}
use Rattle.index_format.specs.File.{file}
use Rattle.index_format.specs.Map.{Value, with_value}
use Rattle.module_facts.specs.declared.facts.Facts.{Facts}
use Rattle.symbol_binding.specs.Symbols.{Kernel}
use Rattle.symbol_binding.specs.Unmet.{unmet}
use Rattle.provider_rel.specs.Faces.{modules_of}
use Rattle.provider_rel.specs.Relation.{dependencies, relation_fault}
use Rattle.stated_texts.specs.Stated.{alias_map, symbols_map}
use Rattle.depmod_core.specs.BuiltIn.{built_in_map}
use Rattle.depmod_core.specs.Dependencies.{dep_map}
use Rattle.depmod_core.specs.Files.{files, files_by, output_fault}
use Rattle.depmod_core.specs.declared.files.OutputFiles.{OutputFiles}
use Rattle.stages_files.specs.KernelTable.{Table, seen_kernel}
use Rattle.laws_headline.specs.Objects.{earlier_facts, giver_facts, taker_facts}
use Rattle.laws_headline.proofs.Computing.{computing}
use Rattle.laws_headline.proofs.Maps.{entries-more, entries-none, file-of}

abbrev pub two : List Facts
two = taker_facts ∷ giver_facts ∷ []

-- the table of a kernel that exports nothing
abbrev pub bare_table : Table
bare_table = record { known = true; exports = [] }

abbrev pub bare_kernel : Kernel
bare_kernel = seen_kernel bare_table

-- ---- the relation

pub related : relation_fault (modules_of two) bare_kernel ≡ None
unfolding computing
related = refl

-- the first module depends on the second
abbrev pub closures : List (List ℕ)
closures = (1 ∷ []) ∷ [] ∷ []

depend : dependencies (modules_of two) bare_kernel ≡ closures
unfolding computing
depend = refl

none-unmet : unmet (modules_of two) bare_kernel ≡ []
unfolding computing
none-unmet = refl

-- ---- the indexes

abbrev pub dep_bytes : List ℕ
dep_bytes =
    0xb0 ∷ 0x07 ∷ 0xf4 ∷ 0x57 ∷ 0 ∷ 2 ∷ 0 ∷ 1 ∷ 0x20 ∷ 0 ∷ 0 ∷ 0x2d ∷ 0 ∷ 0 ∷ 0 ∷ 1 ∷ 0 ∷ 0 ∷ 0 ∷ 0
    ∷ 109 ∷ 46 ∷ 107 ∷ 111 ∷ 58 ∷ 32 ∷ 112 ∷ 46 ∷ 107 ∷ 111 ∷ 0 ∷ 0 ∷ 0 ∷ 0 ∷ 1 ∷ 0 ∷ 0 ∷ 0 ∷ 1
    ∷ 112 ∷ 46 ∷ 107 ∷ 111 ∷ 58 ∷ 0 ∷ 109 ∷ 112 ∷ 0x40 ∷ 0 ∷ 0 ∷ 0x0c ∷ 0 ∷ 0 ∷ 0 ∷ 0 ∷ 0 ∷ 0
    ∷ 0 ∷ 0 ∷ 0x40 ∷ 0 ∷ 0 ∷ 0x1f ∷ []

abbrev pub empty_bytes : List ℕ
empty_bytes = 0xb0 ∷ 0x07 ∷ 0xf4 ∷ 0x57 ∷ 0 ∷ 2 ∷ 0 ∷ 1 ∷ 0 ∷ 0 ∷ 0 ∷ 0x0c ∷ []

abbrev pub symbols_bytes : List ℕ
symbols_bytes =
    0xb0 ∷ 0x07 ∷ 0xf4 ∷ 0x57 ∷ 0 ∷ 2 ∷ 0 ∷ 1 ∷ 0x20 ∷ 0 ∷ 0 ∷ 0x1e ∷ 121 ∷ 109 ∷ 98 ∷ 111 ∷ 108
    ∷ 58 ∷ 120 ∷ 0 ∷ 0 ∷ 0 ∷ 0 ∷ 1 ∷ 0 ∷ 0 ∷ 0 ∷ 1 ∷ 112 ∷ 0 ∷ 115 ∷ 115 ∷ 0xc0 ∷ 0 ∷ 0 ∷ 0x0c
    ∷ []

abbrev first_line : Value
first_line = (0, codes "m.ko: p.ko")

abbrev second_line : Value
second_line = (1, codes "p.ko:")

dep-entries : entries (dep_map two closures)
    ≡ (codes "m", first_line ∷ []) ∷ (codes "p", second_line ∷ []) ∷ []
unfolding dep_map
dep-entries =
    entries-more (with_value empty (codes "m") first_line) ((codes "m", first_line ∷ []) ∷ [])
    (codes "p") second_line
    (entries-more empty [] (codes "m") first_line (entries-none (slice_cmp nat_cmp)))

dep-file : file (dep_map two closures) ≡ dep_bytes
unfolding computing
dep-file =
    file-of (dep_map two closures)
    ((codes "m", first_line ∷ []) ∷ (codes "p", second_line ∷ []) ∷ []) dep-entries

symbols-entries : entries (symbols_map two) ≡ (codes "symbol:x", (1, codes "p") ∷ []) ∷ []
unfolding symbols_map
symbols-entries =
    entries-more empty [] (codes "symbol:x") (1, codes "p") (entries-none (slice_cmp nat_cmp))

symbols-file : file (symbols_map two) ≡ symbols_bytes
unfolding computing
symbols-file =
    file-of (symbols_map two) ((codes "symbol:x", (1, codes "p") ∷ []) ∷ []) symbols-entries

alias-file : file (alias_map two) ≡ empty_bytes
unfolding computing
alias-file = file-of (alias_map two) [] (entries-none (slice_cmp nat_cmp))

built_in-file : file (built_in_map []) ≡ empty_bytes
unfolding computing
built_in-file = file-of (built_in_map []) [] (entries-none (slice_cmp nat_cmp))

-- ---- all files

abbrev pub two_files : OutputFiles
two_files = record {
  dep = codes "m.ko: p.ko\np.ko:\n";
  dep_bin = dep_bytes;
  alias = codes "# Aliases extracted from modules themselves.\n";
  alias_bin = empty_bytes;
  softdep = codes "# Soft dependencies extracted from modules themselves.\n";
  symbols = codes "# Aliases for symbols, used by symbol_request().\nalias symbol:x p\n";
  symbols_bin = symbols_bytes;
  builtin_bin = empty_bytes;
  unmet = [];
}

by-closures : files_by two closures [] [] ≡ two_files
unfolding computing
by-closures = λ i. record {
  dep = codes "m.ko: p.ko\np.ko:\n";
  dep_bin = dep-file i;
  alias = codes "# Aliases extracted from modules themselves.\n";
  alias_bin = alias-file i;
  softdep = codes "# Soft dependencies extracted from modules themselves.\n";
  symbols = codes "# Aliases for symbols, used by symbol_request().\nalias symbol:x p\n";
  symbols_bin = symbols-file i;
  builtin_bin = built_in-file i;
  unmet = [];
}

pub made-so : files two bare_kernel [] ≡ two_files
unfolding files
made-so =
    ap (λ cs. files_by two cs (unmet (modules_of two) bare_kernel) []) depend
    ∙ ap (λ ls. files_by two closures ls []) none-unmet
    ∙ by-closures

two-small : output_fault two_files ≡ None
unfolding computing
two-small = refl

pub made-small : output_fault (files two bare_kernel []) ≡ None
made-small = ap output_fault made-so ∙ two-small

-- ---- no reader refuses the indexes

pub dep-accepted : index_fault dep_bytes ≡ None
unfolding computing
dep-accepted = refl

pub empty-accepted : index_fault empty_bytes ≡ None
unfolding computing
empty-accepted = refl

pub symbols-accepted : index_fault symbols_bytes ≡ None
unfolding computing
symbols-accepted = refl

-- ---- where the first module didn't use the second yet

abbrev pub earlier_two : List Facts
earlier_two = earlier_facts ∷ giver_facts ∷ []

abbrev earlier_closures : List (List ℕ)
earlier_closures = [] ∷ [] ∷ []

earlier-depend : dependencies (modules_of earlier_two) bare_kernel ≡ earlier_closures
unfolding computing
earlier-depend = refl

earlier-unmet : unmet (modules_of earlier_two) bare_kernel ≡ []
unfolding computing
earlier-unmet = refl

abbrev pub earlier_bytes : List ℕ
earlier_bytes =
    0xb0 ∷ 0x07 ∷ 0xf4 ∷ 0x57 ∷ 0 ∷ 2 ∷ 0 ∷ 1 ∷ 0x20 ∷ 0 ∷ 0 ∷ 0x28 ∷ 0 ∷ 0 ∷ 0 ∷ 1 ∷ 0 ∷ 0 ∷ 0 ∷ 0
    ∷ 109 ∷ 46 ∷ 107 ∷ 111 ∷ 58 ∷ 0 ∷ 0 ∷ 0 ∷ 0 ∷ 1 ∷ 0 ∷ 0 ∷ 0 ∷ 1 ∷ 112 ∷ 46 ∷ 107 ∷ 111 ∷ 58
    ∷ 0 ∷ 109 ∷ 112 ∷ 0x40 ∷ 0 ∷ 0 ∷ 0x0c ∷ 0 ∷ 0 ∷ 0 ∷ 0 ∷ 0 ∷ 0 ∷ 0 ∷ 0 ∷ 0x40 ∷ 0 ∷ 0 ∷ 0x1a
    ∷ []

abbrev earlier_line : Value
earlier_line = (0, codes "m.ko:")

earlier-entries : entries (dep_map earlier_two earlier_closures)
    ≡ (codes "m", earlier_line ∷ []) ∷ (codes "p", second_line ∷ []) ∷ []
unfolding dep_map
earlier-entries =
    entries-more (with_value empty (codes "m") earlier_line) ((codes "m", earlier_line ∷ []) ∷ [])
    (codes "p") second_line
    (entries-more empty [] (codes "m") earlier_line (entries-none (slice_cmp nat_cmp)))

earlier-file : file (dep_map earlier_two earlier_closures) ≡ earlier_bytes
unfolding computing
earlier-file =
    file-of (dep_map earlier_two earlier_closures)
    ((codes "m", earlier_line ∷ []) ∷ (codes "p", second_line ∷ []) ∷ []) earlier-entries

abbrev pub earlier_files : OutputFiles
earlier_files = record two_files { dep = codes "m.ko:\np.ko:\n"; dep_bin = earlier_bytes }

earlier-by-closures : files_by earlier_two earlier_closures [] [] ≡ earlier_files
unfolding computing
earlier-by-closures = λ i. record {
  dep = codes "m.ko:\np.ko:\n";
  dep_bin = earlier-file i;
  alias = codes "# Aliases extracted from modules themselves.\n";
  alias_bin = alias-file i;
  softdep = codes "# Soft dependencies extracted from modules themselves.\n";
  symbols = codes "# Aliases for symbols, used by symbol_request().\nalias symbol:x p\n";
  symbols_bin = symbols-file i;
  builtin_bin = built_in-file i;
  unmet = [];
}

pub earlier-made : files earlier_two bare_kernel [] ≡ earlier_files
unfolding files
earlier-made =
    ap (λ cs. files_by earlier_two cs (unmet (modules_of earlier_two) bare_kernel) [])
    earlier-depend
    ∙ ap (λ ls. files_by earlier_two earlier_closures ls []) earlier-unmet
    ∙ earlier-by-closures
