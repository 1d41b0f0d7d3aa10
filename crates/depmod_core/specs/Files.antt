-- The nine files of depmod, or the first of them that would be too large. depmod(8),
-- modules.dep(5).
use Rattle.std.specs.Prelude.{◌≡◌, ℕ, nat_lt, min, List, [], ◌∷◌, length, codes, Option, Some, None}
use Rattle.std.specs.Prelude.{Result, Ok, if◌then◌else◌}
use Rattle.km_names.specs.First.{first}
use Rattle.km_names.specs.Limit.{file_limit}
use Rattle.km_names.specs.Statements.{unless_fault}
use Rattle.index_format.specs.File.{file}
use Rattle.index_format.specs.Holds.{Holds}
use Rattle.module_facts.specs.declared.facts.Facts.{Facts}
use Rattle.symbol_binding.specs.Symbols.{Kernel}
use Rattle.symbol_binding.specs.Unmet.{unmet}
use Rattle.symbol_binding.specs.declared.unbound.Unbound.{Unbound}
use Rattle.unmet_file.specs.Unmet.{file_text, unmet_of}
use Rattle.provider_rel.specs.Faces.{modules_of}
use Rattle.provider_rel.specs.Relation.{dependencies}
use Rattle.provider_rel.specs.Seen.{IsRelation}
use Rattle.provider_rel.specs.declared.relation.Relation.{Relation}
use Rattle.depmod_core.specs.declared.file.OutputFile.{OutputFile}
use Rattle.depmod_core.specs.declared.file.OutputFile.TheVariants.{Dep, DepBin, Alias, AliasBin}
use Rattle.depmod_core.specs.declared.file.OutputFile.TheVariants.{Softdep, Symbols, SymbolsBin}
use Rattle.depmod_core.specs.declared.file.OutputFile.TheVariants.{BuiltinBin, Unmet}
use Rattle.depmod_core.specs.declared.fault.OutputFault.{OutputFault}
use Rattle.depmod_core.specs.declared.fault.OutputFault.TheVariants.{OutputTooLarge}
use Rattle.depmod_core.specs.declared.files.OutputFiles.{OutputFiles}
use Rattle.depmod_core.specs.Dependencies.{dep_text, dep_map}
use Rattle.stated_texts.specs.Stated.{alias_text, alias_map, softdep_text, symbols_text}
use Rattle.stated_texts.specs.Stated.{symbols_map}
use Rattle.depmod_core.specs.BuiltIn.{built_in_map}

-- The name of a file, below the folder of the kernel's modules.
abbrev pub file_name : OutputFile → List ℕ
file_name Dep = codes "modules.dep"
file_name DepBin = codes "modules.dep.bin"
file_name Alias = codes "modules.alias"
file_name AliasBin = codes "modules.alias.bin"
file_name Softdep = codes "modules.softdep"
file_name Symbols = codes "modules.symbols"
file_name SymbolsBin = codes "modules.symbols.bin"
file_name BuiltinBin = codes "modules.builtin.bin"
file_name Unmet = codes "modules.unmet"

-- The files of a tree, by what each module depends on, the obstacles to loading modules, and the
-- contents of modules.builtin.
unfoldable pub files_by : List Facts → List (List ℕ) → List Unbound → List ℕ → OutputFiles
files_by tree closures obstacles builtin = record {
  dep = dep_text tree closures;
  dep_bin = file (dep_map tree closures);
  alias = alias_text tree;
  alias_bin = file (alias_map tree);
  softdep = softdep_text tree;
  symbols = symbols_text tree;
  symbols_bin = file (symbols_map tree);
  builtin_bin = file (built_in_map builtin);
  unmet = file_text obstacles;
}

-- The files of a tree over a kernel, if modules.builtin has these bytes.
unfoldable pub files : List Facts → Kernel → List ℕ → OutputFiles
files tree kernel builtin =
    files_by tree (dependencies (modules_of tree) kernel) (unmet (modules_of tree) kernel) builtin

-- The bytes of one of the files.
abbrev pub content : OutputFiles → OutputFile → List ℕ
content fs Dep = fs.dep
content fs DepBin = fs.dep_bin
content fs Alias = fs.alias
content fs AliasBin = fs.alias_bin
content fs Softdep = fs.softdep
content fs Symbols = fs.symbols
content fs SymbolsBin = fs.symbols_bin
content fs BuiltinBin = fs.builtin_bin
content fs Unmet = fs.unmet

-- The fault of a file of this many bytes: it is too large. A count past 64 bits is given as the
-- greatest of 64.
abbrev pub size_fault : OutputFile → List ℕ → Option OutputFault
size_fault which bytes =
    if nat_lt file_limit (length bytes)
    then Some (OutputTooLarge (file_name which) (min (length bytes) 18446744073709551615))
    else None

-- The fault of the first of the files, in their order, that is too large.
unfoldable pub output_fault : OutputFiles → Option OutputFault
output_fault fs =
    first (
    size_fault Dep fs.dep
    ∷ size_fault DepBin fs.dep_bin
    ∷ size_fault Alias fs.alias
    ∷ size_fault AliasBin fs.alias_bin
    ∷ size_fault Softdep fs.softdep
    ∷ size_fault Symbols fs.symbols
    ∷ size_fault SymbolsBin fs.symbols_bin
    ∷ size_fault BuiltinBin fs.builtin_bin
    ∷ size_fault Unmet fs.unmet
    ∷ [])

-- The files of a tree over a kernel, unless one of them is too large.
unfoldable pub outputs_of : List Facts → Kernel → List ℕ → Result OutputFiles OutputFault
outputs_of tree kernel builtin =
    let made = files tree kernel builtin in unless_fault (output_fault made) made

-- The relation is the tree's over some kernel.
abbrev pub IsRelationOf : List Facts → Relation → Type 0
IsRelationOf tree relation = (kernel : Kernel) × IsRelation (modules_of tree) kernel relation

-- The files represent what they are made of. The indexes represent their maps: no reader refuses
-- them, and each key reaches the values that it has in the map, and no others. What a reader takes
-- from modules.unmet, at whatever path, is the list of obstacles to loading modules.
pub record StandFor (tree : List Facts) (kernel : Kernel) (builtin : List ℕ) (made : OutputFiles) :
    Type 0 where
  pub dep : Holds made.dep_bin (dep_map tree (dependencies (modules_of tree) kernel))
  pub alias : Holds made.alias_bin (alias_map tree)
  pub symbols : Holds made.symbols_bin (symbols_map tree)
  pub built_in : Holds made.builtin_bin (built_in_map builtin)
  pub lines : (path : List ℕ) → unmet_of path made.unmet ≡ Ok (unmet (modules_of tree) kernel)
