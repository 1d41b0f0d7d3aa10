-- What the files are made from, and the files in the making, as the code keeps them.
-- It belongs to the code: no public meaning rests on it.
use Rattle.std.specs.Prelude.{◌≡◌, ◌⊎◌, ⊤, ℕ, List, [], length, map, fold, All, Option, Some, None}
use Rattle.km_names.specs.First.{first}
use Rattle.index_format.specs.Map.{KeyValues}
use Rattle.index_format.specs.Holds.{Holds}
use Rattle.unmet_file.specs.Unmet.{file_text}
use Rattle.provider_rel.specs.Seen.{closures_by, obstacles_by}
use Rattle.provider_rel.specs.Tree.{IsTree}
use Rattle.stated_texts.specs.Stated.{alias_text, alias_map, softdep_text, symbols_text}
use Rattle.stated_texts.specs.Stated.{symbols_map}
use Rattle.stated_texts.specs.AllStated.{AreAllStated}
use Rattle.depmod_core.specs.declared.file.OutputFile.{OutputFile}
use Rattle.depmod_core.specs.declared.file.OutputFile.TheVariants.{Dep, DepBin, Alias, AliasBin}
use Rattle.depmod_core.specs.declared.file.OutputFile.TheVariants.{Softdep, Symbols, SymbolsBin}
use Rattle.depmod_core.specs.declared.file.OutputFile.TheVariants.{BuiltinBin, Unmet}
use Rattle.depmod_core.specs.declared.fault.OutputFault.{OutputFault}
use Rattle.depmod_core.specs.declared.fault.OutputFault.TheVariants.{Memory}
use Rattle.depmod_core.specs.declared.files.OutputFiles.{OutputFiles}
use Rattle.depmod_core.specs.declared.making.Making.{Making}
use Rattle.depmod_core.specs.Dependencies.{dep_text, dep_map}
use Rattle.depmod_core.specs.BuiltIn.{built_in_map}
use Rattle.depmod_core.specs.Files.{content, files_by, size_fault}

-- What the files are made from is of one tree.
pub record IsMaking (m : Making) : Type 0 where
  pub tree : IsTree m.tree.now
  pub stated : AreAllStated m.tree.now m.stated.now
  pub long : length (closures_by m.relation.now) ≡ length m.tree.now

-- The files that are made from it.
abbrev pub made_files : Making → OutputFiles
made_files m =
    files_by m.tree.now (closures_by m.relation.now) (obstacles_by m.relation.now) m.builtin.now

-- The bytes of one of them.
abbrev pub made_bytes : Making → OutputFile → List ℕ
made_bytes m file = content (made_files m) file

-- The text of a file. An index has none.
abbrev pub text_in : Making → OutputFile → List ℕ
text_in m Dep = dep_text m.tree.now (closures_by m.relation.now)
text_in m DepBin = []
text_in m Alias = alias_text m.tree.now
text_in m AliasBin = []
text_in m Softdep = softdep_text m.tree.now
text_in m Symbols = symbols_text m.tree.now
text_in m SymbolsBin = []
text_in m BuiltinBin = []
text_in m Unmet = file_text (obstacles_by m.relation.now)

-- The map of an index. A text has none.
abbrev pub map_in : Making → OutputFile → Option KeyValues
map_in m Dep = None
map_in m DepBin = Some (dep_map m.tree.now (closures_by m.relation.now))
map_in m Alias = None
map_in m AliasBin = Some (alias_map m.tree.now)
map_in m Softdep = None
map_in m Symbols = None
map_in m SymbolsBin = Some (symbols_map m.tree.now)
map_in m BuiltinBin = Some (built_in_map m.builtin.now)
map_in m Unmet = None

-- An index represents its map. A text has no such property.
abbrev pub Stands : Making → OutputFile → List ℕ → Type 0
Stands m Dep bytes = ⊤
Stands m DepBin bytes = Holds bytes (dep_map m.tree.now (closures_by m.relation.now))
Stands m Alias bytes = ⊤
Stands m AliasBin bytes = Holds bytes (alias_map m.tree.now)
Stands m Softdep bytes = ⊤
Stands m Symbols bytes = ⊤
Stands m SymbolsBin bytes = Holds bytes (symbols_map m.tree.now)
Stands m BuiltinBin bytes = Holds bytes (built_in_map m.builtin.now)
Stands m Unmet bytes = ⊤

-- The bytes are those of a file that isn't too large.
pub record IsMade (m : Making) (file : OutputFile) (bytes : List ℕ) : Type 0 where
  pub same : bytes ≡ made_bytes m file
  pub passed : size_fault file (made_bytes m file) ≡ None
  pub stands : Stands m file (made_bytes m file)

-- Why a file isn't made, by its test.
abbrev pub IsFaultBy : Option OutputFault → OutputFault → Type 0
IsFaultBy test fault = (fault ≡ Memory) ⊎ (test ≡ Some fault)

-- The files with other bytes of one of them.
abbrev pub with_content : OutputFiles → OutputFile → List ℕ → OutputFiles
with_content fs Dep bytes = record fs { dep = bytes }
with_content fs DepBin bytes = record fs { dep_bin = bytes }
with_content fs Alias bytes = record fs { alias = bytes }
with_content fs AliasBin bytes = record fs { alias_bin = bytes }
with_content fs Softdep bytes = record fs { softdep = bytes }
with_content fs Symbols bytes = record fs { symbols = bytes }
with_content fs SymbolsBin bytes = record fs { symbols_bin = bytes }
with_content fs BuiltinBin bytes = record fs { builtin_bin = bytes }
with_content fs Unmet bytes = record fs { unmet = bytes }

-- The test of the first of some files that is too large.
abbrev pub first_fault : Making → List OutputFile → Option OutputFault
first_fault m which = first (map (λ file. size_fault file (made_bytes m file)) which)

-- Some of the files are made, and none of them is too large.
pub record AreMade (m : Making) (start made : OutputFiles) (which : List OutputFile) : Type 0 where
  pub same : made ≡ fold (λ fs file. with_content fs file (made_bytes m file)) start which
  pub passed : first_fault m which ≡ None
  pub stand : All (λ file. Stands m file (made_bytes m file)) which
