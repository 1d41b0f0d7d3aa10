-- How far a depmod gets, by the files that it finds: it indexes the tree in a folder, or something
-- ends it. depmod(8), modules.dep(5).
use Rattle.std.specs.Prelude.{◌≡◌, ℕ, true, false, List, [], ◌∷◌, ◌++◌, length, map, codes, Option}
use Rattle.std.specs.Prelude.{Some, None, Ok}
use Rattle.km_names.specs.Path.{is_compressed, path_below}
use Rattle.outside_calls.specs.Contents.{Contents}
use Rattle.km_course.specs.Course.{Outcome, reads, reads_any}
use Rattle.km_course.specs.Course.Outcome.{value, end}
use Rattle.km_course.specs.declared.end.End.{End}
use Rattle.km_course.specs.declared.end.End.TheVariants.{Refused}
use Rattle.km_course.specs.declared.refusal.Refusal.{Refusal}
use Rattle.km_course.specs.declared.refusal.Refusal.TheVariants.{BadModule, Compressed, Cycle}
use Rattle.kmod_words.specs.declared.depmod.DepmodWords.{DepmodWords}
use Rattle.index_format.specs.Holds.{Holds}
use Rattle.builtin_index.specs.Aliases.{alias_map}
use Rattle.devname_nodes.specs.File.{read_of}
use Rattle.devname_nodes.specs.Nodes.{nodes_of}
use Rattle.relation_order.specs.Cycle.{cycle}
use Rattle.relation_order.specs.Sets.{below}
use Rattle.module_facts.specs.declared.facts.Facts.{Facts}
use Rattle.module_facts.specs.declared.fault.ModuleFault.{ModuleFault}
use Rattle.module_facts.specs.Faults.{fact_fault}
use Rattle.module_facts.specs.FaultText.{module_fault_text}
use Rattle.provider_rel.specs.Faces.{modules_of}
use Rattle.provider_rel.specs.Relation.{name_at, relation_fault, uses_at}
use Rattle.depmod_core.specs.declared.files.OutputFiles.{OutputFiles}
use Rattle.depmod_core.specs.Files.{StandFor, files, output_fault}
use Rattle.stages_files.specs.KernelTable.{Table, reads_kernel, seen_kernel}
use Rattle.command_depmod.specs.declared.files.DepmodFiles.{DepmodFiles}
use Rattle.command_depmod.specs.declared.files.ExtraFiles.{ExtraFiles}
use Rattle.command_depmod.specs.Depmod.{modules_of_request}
use Rattle.command_depmod.specs.Extra.{extra_files, extra_made, extra_refusal, reads_info}
use Rattle.command_depmod.specs.Outputs.{usual_refusal}
use Rattle.command_depmod.specs.Relation.{relation_refusal}
use Rattle.command_depmod.specs.Search.{reads_search}
use Rattle.command_depmod.specs.Tree.{reads_tree}
use Rattle.laws_closed_plans.specs.Members.{Member}
use Rattle.laws_indexed_folder.specs.Indexed.{IsModuleFile}

-- ---- what is indexed

-- What is indexed: the modules of a tree, the kernel's table, the bytes of modules.builtin, and
-- with `--extra` the bytes of modules.builtin.modinfo.
pub record IndexedTree : Type 0 where
  pub tree : List Facts
  pub table : Table
  pub builtin : List ℕ
  pub info : Option (List ℕ)

-- The nine files that are always made of it.
abbrev pub files_of : IndexedTree → OutputFiles
files_of i = files i.tree (seen_kernel i.table) i.builtin

-- All files that are made of it.
abbrev pub made_of : IndexedTree → DepmodFiles
made_of i = record { usual = files_of i; extra = extra_made i.tree i.info }

-- The folder that is asked for has a tree of modules at these paths, in this order, as it is chosen
-- from the listing of the folder. And the kernel has the table that is named, or an unknown one.
pub record HasTree (held : Contents) (asked : DepmodWords) (paths : List (List ℕ)) (table : Table) :
    Type 0 where
  pub search : List (List ℕ)
  pub searched : ((reads_search asked.config).run held).outcome ≡ value search
  pub chosen : ((reads_tree (modules_of_request asked) search).run held).outcome ≡ value paths
  pub kernel : ((reads_kernel asked.filesyms asked.symvers).run held).outcome ≡ value table

-- The first modules of a tree are valid and state these facts; and these paths are left.
pub record AreValid (held : Contents) (folder : List ℕ) (paths : List (List ℕ))
    (modules : List Facts) (left : List (List ℕ)) : Type 0 where
  pub split : paths ≡ map (λ (f : Facts). f.path) modules ++ left
  pub valid : (f : Facts) → Member f modules → IsModuleFile held folder f

-- All modules of the tree are valid.
pub record IsRead (held : Contents) (asked : DepmodWords) (tree : List Facts) (table : Table) : Type
    0 where
  pub paths : List (List ℕ)
  pub found : HasTree held asked paths table
  pub modules : AreValid held (modules_of_request asked) paths tree []

-- The bytes of modules.builtin, or the end that it results in. It counts as empty if there is none.
abbrev pub built_in : Contents → DepmodWords → Outcome (List ℕ)
built_in held asked =
    ((reads_any (path_below (modules_of_request asked) (codes "modules.builtin"))).run held).outcome

-- The bytes of modules.builtin.modinfo, if they are asked for, or the end that reading it results
-- in. It counts as empty if there is none.
abbrev pub built_in_info : Contents → DepmodWords → Outcome (Option (List ℕ))
built_in_info held asked = ((reads_info asked.extra (modules_of_request asked)).run held).outcome

-- The two files of `--extra` stand for what they are made of. The index holds the map of the
-- built-in aliases, and modules.devname is read back as the nodes of the tree, at whatever path.
pub record ExtraStand (tree : List Facts) (info : List ℕ) (made : ExtraFiles) : Type 0 where
  pub aliases : Holds made.builtin_alias_bin (alias_map info)
  pub nodes : (path : List ℕ) → read_of path made.devname ≡ Ok (nodes_of tree)

-- Nothing is in the way of an index, and its files stand for what they are made of.
pub record IsIndexed (held : Contents) (asked : DepmodWords) (i : IndexedTree) : Type 0 where
  pub read : IsRead held asked i.tree i.table
  -- no walk from a module to one that it uses leads back, and no limit is passed
  pub related : relation_fault (modules_of i.tree) (seen_kernel i.table) ≡ None
  pub builtin : built_in held asked ≡ value i.builtin
  pub info : built_in_info held asked ≡ value i.info
  pub small : output_fault (files_of i) ≡ None
  pub small_extra : extra_refusal (extra_made i.tree i.info) ≡ None
  -- each index holds its map, and modules.unmet is read back as what prevents modules from being
  -- loaded
  pub stand : StandFor i.tree (seen_kernel i.table) i.builtin (files_of i)
  -- and so do the two more of `--extra`
  pub stand_extra : (info : List ℕ) → i.info ≡ Some info
      → ExtraStand i.tree info (extra_files i.tree info)

-- ---- what ends it

-- The module at a path of the tree is refused, and this is the end.
pub data IsBadModule (held : Contents) (folder path : List ℕ) : End → Type 0 where
  -- it is a compressed one, which isn't read
  compressed : is_compressed path ≡ true → IsBadModule held folder path (Refused (Compressed path))
  -- its file can't be read
  unread : is_compressed path ≡ false → (e : End)
      → ((reads (path_below folder path)).run held).outcome ≡ end e → IsBadModule held folder path e
  -- this is the first test that its file fails
  bad : is_compressed path ≡ false → (bytes : List ℕ)
      → ((reads (path_below folder path)).run held).outcome ≡ value bytes → (fault : ModuleFault)
      → fact_fault path bytes ≡ Some fault
      → IsBadModule held folder path (Refused (BadModule path (module_fault_text fault)))

-- The walk along which the modules of a tree use one another and that leads back, by places in the
-- tree. It is empty if there is no such walk.
abbrev pub cycle_in : List Facts → Table → List ℕ
cycle_in tree table = cycle (uses_at (modules_of tree) (seen_kernel table)) (below (length tree))

-- Something ends a depmod before it has files, in the order of its work.
pub data IsEnded (held : Contents) (asked : DepmodWords) : End → Type 0 where
  -- the configuration
  no_search : (e : End) → ((reads_search asked.config).run held).outcome ≡ end e
      → IsEnded held asked e
  -- the listing, modules.order, a bad path or too many modules
  no_tree : (search : List (List ℕ)) → ((reads_search asked.config).run held).outcome ≡ value search
      → (e : End) → ((reads_tree (modules_of_request asked) search).run held).outcome ≡ end e
      → IsEnded held asked e
  -- the kernel's table
  no_table : (search paths : List (List ℕ))
      → ((reads_search asked.config).run held).outcome ≡ value search
      → ((reads_tree (modules_of_request asked) search).run held).outcome ≡ value paths → (e : End)
      → ((reads_kernel asked.filesyms asked.symvers).run held).outcome ≡ end e
      → IsEnded held asked e
  -- a module, after valid ones
  bad_module : (paths : List (List ℕ)) (table : Table) → HasTree held asked paths table
      → (before : List Facts) (path : List ℕ) (later : List (List ℕ))
      → AreValid held (modules_of_request asked) paths before (path ∷ later) → (e : End)
      → IsBadModule held (modules_of_request asked) path e → IsEnded held asked e
  -- a cycle, if all modules are valid
  has_cycle : (tree : List Facts) (table : Table) → IsRead held asked tree table
      → (i : ℕ) (is : List ℕ) → cycle_in tree table ≡ i ∷ is
      → IsEnded held asked (Refused (Cycle (map (name_at (modules_of tree)) (i ∷ is))))
  -- if there is none, a limit of dependencies or of double lines
  too_many : (tree : List Facts) (table : Table) → IsRead held asked tree table
      → cycle_in tree table ≡ [] → (refusal : Refusal)
      → relation_refusal (modules_of tree) (seen_kernel table) ≡ Some refusal
      → IsEnded held asked (Refused refusal)
  -- modules.builtin
  no_builtin : (tree : List Facts) (table : Table) → IsRead held asked tree table
      → relation_fault (modules_of tree) (seen_kernel table) ≡ None → (e : End)
      → built_in held asked ≡ end e → IsEnded held asked e
  -- modules.builtin.modinfo
  no_info : (tree : List Facts) (table : Table) → IsRead held asked tree table
      → relation_fault (modules_of tree) (seen_kernel table) ≡ None → (builtin : List ℕ)
      → built_in held asked ≡ value builtin → (e : End) → built_in_info held asked ≡ end e
      → IsEnded held asked e
  -- the first of the nine files that is too large
  too_large : (i : IndexedTree) → IsRead held asked i.tree i.table
      → relation_fault (modules_of i.tree) (seen_kernel i.table) ≡ None
      → built_in held asked ≡ value i.builtin → built_in_info held asked ≡ value i.info
      → (refusal : Refusal) → usual_refusal (files_of i) ≡ Some refusal
      → IsEnded held asked (Refused refusal)
  -- if none of them is, the first of the two others
  extra_too_large : (i : IndexedTree) → IsRead held asked i.tree i.table
      → relation_fault (modules_of i.tree) (seen_kernel i.table) ≡ None
      → built_in held asked ≡ value i.builtin → built_in_info held asked ≡ value i.info
      → output_fault (files_of i) ≡ None → (refusal : Refusal)
      → extra_refusal (extra_made i.tree i.info) ≡ Some refusal
      → IsEnded held asked (Refused refusal)

-- What a depmod results in over the files that it finds.
abbrev pub ComesTo : Contents → DepmodWords → Outcome IndexedTree → Type 0
ComesTo held asked (value i) = IsIndexed held asked i
ComesTo held asked (end e) = IsEnded held asked e
