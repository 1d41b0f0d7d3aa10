-- How far the reading of a depmod comes: a tree of valid modules with its relation, or what ends
-- it.
use Rattle.std.proofs.Common.{◌≡◌, ◌∙◌, ◌≤◌, ◌||◌, ℕ, Bool, true, false, List, [], ◌∷◌, ◌++◌}
use Rattle.std.proofs.Common.{length, refl, sym, ap, subst, arith, append_assoc, append-nil, inl}
use Rattle.std.proofs.Common.{inr}
use Rattle.std.specs.Prelude.{Option, Some, None, Result, Ok, Err, ◌⊎◌, All, codes, is_some, map}
use Rattle.std.specs.Prelude.{option_map}
use Rattle.std.specs.FinMap.{get}
use Rattle.std.specs.List.{AllByRecursion, sum_by}
use Rattle.std.proofs.lemmas.List.{length-map, take_all}
use Rattle.std.proofs.lemmas.List.Elements.{All-from_recursion, All-head, All-tail}
use Rattle.km_names.specs.First.{first}
use Rattle.km_names.specs.Path.{is_compressed, path_below}
use Rattle.outside_calls.specs.Contents.{Contents, is_path}
use Rattle.km_course.specs.Course.{Outcome, Stage, after, continued, ◌>>=◌, ends, given, lists_tree}
use Rattle.km_course.specs.Course.{reads, reads_any, when◌then◌else◌}
use Rattle.km_course.specs.Course.Outcome.{value, end}
use Rattle.km_course.specs.declared.end.End.{End}
use Rattle.km_course.specs.declared.end.End.TheVariants.{NoFile, Refused}
use Rattle.km_course.specs.declared.refusal.Refusal.{Refusal}
use Rattle.km_course.specs.declared.refusal.Refusal.TheVariants.{Compressed, Cycle}
use Rattle.km_course.specs.declared.refusal.Refusal.TheVariants.{TooManyDependencies}
use Rattle.km_course.specs.declared.refusal.Refusal.TheVariants.{TooManyDoubles}
use Rattle.kmod_words.specs.declared.depmod.DepmodWords.{DepmodWords}
use Rattle.elf_object.specs.Object.{file_object, object_fault}
use Rattle.elf_sections.specs.Shape.{fault_if}
use Rattle.relation_order.specs.Cycle.{cycle}
use Rattle.relation_order.specs.Sets.{below}
use Rattle.module_facts.specs.declared.facts.Facts.{Facts}
use Rattle.module_facts.specs.declared.fault.ModuleFault.{ModuleFault}
use Rattle.module_facts.specs.declared.fault.ModuleFault.TheVariants.{Compressed as CompressedFile}
use Rattle.module_facts.specs.declared.fault.ModuleFault.TheVariants.{Object}
use Rattle.module_facts.specs.Facts.{facts_of, object_facts}
use Rattle.module_facts.specs.Faults.{fact_fault, facts_tests, module_tests}
use Rattle.module_facts.proofs.SoundLemmas.{IsSound-passed}
use Rattle.mod_tree.specs.Tree.{is_module_path, tree_of}
use Rattle.symbol_binding.specs.Symbols.{Kernel as SeenKernel, Module}
use Rattle.symbol_binding.specs.Unmet.{doubles}
use Rattle.kernel_exports.specs.declared.kernel.KernelExport.{KernelExport}
use Rattle.provider_rel.specs.Faces.{module_of, modules_of}
use Rattle.kernel_exports.specs.KernelTable.{IsTable, exports_of_map, exports_of_symvers}
use Rattle.provider_rel.specs.Relation.{dependencies, deps_fault, doubles_fault, name_at}
use Rattle.provider_rel.specs.Relation.{relation_fault, uses_at}
use Rattle.provider_rel.specs.Tree.{IsTree}
use Rattle.stages_files.specs.KernelTable.{Table, reads_kernel, seen_kernel, table_of}
use Rattle.stages_files.specs.KernelTable.{table_outcome, unknown_table}
use Rattle.stages_files.specs.declared.configuration.Tool.TheVariants.{Depmod}
use Rattle.stages_files.specs.Configuration.{reads_configuration}
use Rattle.stages_files.proofs.TableSteps.{map_read, symvers_read}
use Rattle.stages_loads.specs.Tables.{kernel_with}
use Rattle.stages_loads.proofs.KernelLemmas.{kernel_with-exports, map-apart, symvers-apart}
use Rattle.command_depmod.specs.Tree.{AreTreePaths, reads_tree, tree_outcome}
use Rattle.command_depmod.specs.Search.{reads_search}
use Rattle.command_depmod.specs.Modules.{AreFactsAt, adds_facts, facts_outcome, reads_facts}
use Rattle.command_depmod.specs.Modules.{reads_modules_facts}
use Rattle.km_course.specs.Course.{value_unless}
use Rattle.command_depmod.specs.Relation.{KernelTree, cycle_refusal, relation_outcome}
use Rattle.command_depmod.specs.Relation.{relation_refusal}
use Rattle.command_depmod.specs.Depmod.{modules_of_request, reads_related}
use Rattle.command_depmod.proofs.IndexSteps.{related, with_kernel, with_paths, with_search}
use Rattle.command_depmod.proofs.ModuleSteps.{AreFactsOf, added, checked, facts-at, facts-tree}
use Rattle.command_depmod.proofs.ModuleSteps.{the_others}
use Rattle.command_depmod.proofs.RelationSteps.{no-fault}
use Rattle.command_depmod.proofs.SearchSteps.{understood}
use Rattle.command_depmod.proofs.TreeLaw.{tree-kinds, tree-paths}
use Rattle.command_depmod.proofs.TreeSteps.{listed, ordered, was-chosen}
use Rattle.laws_closed_plans.specs.Members.{Member}
use Rattle.laws_closed_plans.proofs.ListLemmas.{first-none}
use Rattle.laws_indexed_folder.specs.Indexed.{HasFile, IsModuleFile}
use Rattle.laws_planned_loads.proofs.FileLemmas.{file-there}
use Rattle.laws_planned_loads.proofs.KnownLemmas.{given-came, only-configuration, read-came}
use Rattle.laws_planned_loads.proofs.RunLemmas.{OnlyReads, goes-on, read-leaves, reads-each}
use Rattle.laws_planned_loads.proofs.RunLemmas.{reads-file, reads-given, reads-names, reads-then}
use Rattle.laws_planned_loads.proofs.RunLemmas.{reads-when, run-given}
use Rattle.laws_depmod_leaves.specs.Comes.{AreValid, HasTree, IsBadModule, IsEnded, IsRead, bad}
use Rattle.laws_depmod_leaves.specs.Comes.{bad_module, compressed, cycle_in, has_cycle, no_search}
use Rattle.laws_depmod_leaves.specs.Comes.{no_table, no_tree, too_many, unread}

-- ---- stages that only read

only-search : (config : Option (List ℕ)) → OnlyReads (reads_search config)
only-search config =
    reads-then (reads_configuration Depmod config) understood (only-configuration Depmod config)
    (λ files. reads-given _)

only-tree : (folder : List ℕ) (search : List (List ℕ)) → OnlyReads (reads_tree folder search)
only-tree folder search =
    let order = path_below folder (codes "modules.order") in
    reads-then (lists_tree folder) (listed folder search)
    (reads-names (end (NoFile folder)) is_path folder) (λ paths.
    reads-then (reads_any order) (ordered search paths) (reads-file (value []) order)
    (λ bytes. reads-given _))

only-kernel : (map symvers : Option (List ℕ)) → OnlyReads (reads_kernel map symvers)
only-kernel (Some file) symvers =
    reads-then (reads file) (map_read file) (reads-file (end (NoFile file)) file)
    (λ bytes. reads-given _)
only-kernel None (Some file) =
    reads-then (reads file) (symvers_read file) (reads-file (end (NoFile file)) file)
    (λ bytes. reads-given _)
only-kernel None None = reads-given (value unknown_table)

only-facts : (folder path : List ℕ) → OnlyReads (reads_facts folder path)
only-facts folder path =
    let file = path_below folder path in
    reads-when (is_compressed path) (ends (Refused (Compressed path))) (reads file >>= checked path)
    (reads-given (end (Refused (Compressed path))))
    (reads-then (reads file) (checked path) (reads-file (end (NoFile file)) file)
    (λ bytes. reads-given _))

only-module : (folder : List ℕ) (before : List Facts) (path : List ℕ)
    → OnlyReads (adds_facts folder before path)
only-module folder before path =
    reads-then (reads_facts folder path) (added before) (only-facts folder path)
    (λ facts. reads-given _)

only-modules : (folder : List ℕ) (paths : List (List ℕ))
    → OnlyReads (reads_modules_facts folder paths)
only-modules folder paths = reads-each (adds_facts folder) (only-module folder) [] paths

pub only-related : (folder : List ℕ) (config map symvers : Option (List ℕ))
    → OnlyReads (reads_related folder config map symvers)
only-related folder config map symvers =
    reads-then (reads_search config) (with_search folder map symvers) (only-search config) (λ
    search.
    reads-then (reads_tree folder search) (with_paths folder map symvers) (only-tree folder search)
    (λ paths.
    reads-then (reads_kernel map symvers) (with_kernel folder paths) (only-kernel map symvers) (λ
    kernel.
    reads-then (reads_modules_facts folder paths) (related kernel) (only-modules folder paths)
    (λ facts. reads-given _))))

-- ---- outcomes

pub outcome-given : {X : Type 0} (o : Outcome X) (files : Contents)
    → ((given o).run files).outcome ≡ o
outcome-given o files = ap (λ r. r.outcome) (run-given o files)

-- what is so of the outcome of two stages, of which the first only reads
pub by-first : {X Y : Type 0} (P : Outcome Y → Type 0) (stage : Stage X) (next : X → Stage Y)
    (files : Contents)
    → OnlyReads stage → ((e : End) → (stage.run files).outcome ≡ end e → P (end e))
    → ((x : X) → (stage.run files).outcome ≡ value x → P ((next x).run files).outcome)
    → P ((stage >>= next).run files).outcome
unfolding ◌>>=◌ continued
by-first {X} {Y} P stage next files only ended gone = by_outcome (stage.run files).outcome refl
  where
    by_outcome : (o : Outcome X) → (stage.run files).outcome ≡ o
        → P (continued (stage.run files).acts o next files).outcome
    by_outcome (value x) came =
        subst (λ fs. P ((next x).run fs).outcome)
        (sym (read-leaves (stage.run files).acts files (only files))) (gone x came)
    by_outcome (end e) came = ended e came

-- ---- the kernel

was-tabled : (file : List ℕ) (o : Result (List KernelExport) ℕ) (table : Table)
    → table_outcome file true o ≡ value table → (table.known ≡ true) × (o ≡ Ok table.exports)
unfolding table_outcome
was-tabled file (Ok exports) table came =
    let same : ◌≡◌ {A = Table} (record { known = true; exports = exports }) table = cc in
    (ap (λ (t : Table). t.known) (sym same), ap (λ (t : Table). Ok t.exports) same)
was-tabled file (Err fault) table came = cc

-- the table that a file states
stated-came : (files : Contents) (file : List ℕ) (state : List ℕ → Result (List KernelExport) ℕ)
    (table : Table)
    → ((bytes : List ℕ) (es : List KernelExport) → state bytes ≡ Ok es → IsTable es)
    → ((reads file >>= λ bytes. given (table_outcome file true (state bytes))).run files).outcome
    ≡ value table
    → (table.known ≡ true) × IsTable table.exports
stated-came files file state table apart came =
    let h
    = goes-on (reads file) (λ bytes. given (table_outcome file true (state bytes))) files table came
    in
    let t
    = was-tabled file (state h.mid) table
    (given-came (table_outcome file true (state h.mid)) table
    (after ((reads file).run files).acts files) h.rest) in
    (t.0, apart h.mid table.exports t.1)

pub kernel-came : (files : Contents) (map symvers : Option (List ℕ)) (table : Table)
    → (is_some map || is_some symvers) ≡ true
    → ((reads_kernel map symvers).run files).outcome ≡ value table
    → (table.known ≡ true) × IsTable table.exports
kernel-came files (Some file) symvers table named came =
    stated-came files file exports_of_map table map-apart came
kernel-came files None (Some file) table named came =
    stated-came files file exports_of_symvers table symvers-apart came
kernel-came files None None table named came = absurd cc

pub kernel_with-known : (table : Table) → (kernel_with table).known ≡ table.known
unfolding kernel_with
kernel_with-known table = refl

-- the kernel of a table has the table
pub table-same : (table : Table) → IsTable table.exports → table ≡ table_of (kernel_with table)
table-same table apart =
    ap (λ known. record { known = known; exports = table.exports }) (sym (kernel_with-known table))
    ∙ ap (λ es. record { known = (kernel_with table).known; exports = es })
    (sym (kernel_with-exports table apart))

-- ---- the paths

pub paths-came : (files : Contents) (folder : List ℕ) (search paths : List (List ℕ))
    → ((reads_tree folder search).run files).outcome ≡ value paths
    → AreTreePaths paths × All (λ p. is_module_path p ≡ true) paths
paths-came files folder words paths came =
    let a = goes-on _ (listed folder words) files paths came in
    let b = goes-on _ (ordered words a.mid) _ paths a.rest in
    let made : tree_of a.mid b.mid words ≡ Ok paths
    = was-chosen a.mid b.mid words paths
    (given-came (tree_outcome a.mid b.mid words) paths _ b.rest) in
    (tree-paths a.mid b.mid words paths made, tree-kinds a.mid b.mid words paths made)

-- ---- a module

its-path : (path bytes : List ℕ) → (facts_of path bytes).path ≡ path
unfolding object_facts
its-path path bytes = refl

its-tests : (path bytes : List ℕ) → fact_fault path bytes ≡ None
    → first (facts_tests (file_object bytes) (object_facts path (file_object bytes))) ≡ None
unfolding fact_fault module_tests
its-tests path bytes passed =
    let tests = facts_tests (file_object bytes) (object_facts path (file_object bytes)) in
    let of_object : Option ModuleFault = option_map (λ fault. Object fault) (object_fault bytes) in
    (first-none of_object tests
    (first-none (fault_if (is_compressed path) CompressedFile) (of_object ∷ tests)
    passed).1).1

known-facts : (path bytes : List ℕ) (f : Facts) → f.path ≡ path → fact_fault path bytes ≡ None
    → f ≡ facts_of path bytes → AreFactsAt f.path f
known-facts path bytes f at passed is =
    let object = file_object bytes in
    let tests : first (facts_tests object f) ≡ None
    = ap (λ (g : Facts). first (facts_tests object g)) is ∙ its-tests path bytes passed in
    subst (λ p. AreFactsAt p f) (sym at)
    (facts-at path bytes object f is at (IsSound-passed path object f is tests))

-- what the file at a path comes to
abbrev FactsCome : Contents → List ℕ → List ℕ → Outcome Facts → Type 0
FactsCome held folder path (value f) = (f.path ≡ path) × IsModuleFile held folder f
FactsCome held folder path (end e) = IsBadModule held folder path e

-- a file that passes is that of a valid module
valid-file : (held : Contents) (folder path bytes : List ℕ) → is_module_path path ≡ true
    → ((reads (path_below folder path)).run held).outcome ≡ value bytes
    → fact_fault path bytes ≡ None → IsModuleFile held folder (facts_of path bytes)
valid-file held folder path bytes kind came passed =
    let file = path_below folder path in
    let f = facts_of path bytes in
    let at : path ≡ f.path = sym (its-path path bytes) in
    let there
    = file-there file bytes (get held file) (read-came (end (NoFile file)) file held bytes came)
    in
    record {
      kind = subst (λ p. is_module_path p ≡ true) at kind;
      bytes = bytes;
      there = subst (λ p. HasFile held (path_below folder p) bytes) at there.0;
      small = there.1;
      passed = subst (λ p. fact_fault p bytes ≡ None) at passed;
      facts = subst (λ p. f ≡ facts_of p bytes) at refl;
    }

facts-found : (held : Contents) (folder path bytes : List ℕ) → is_module_path path ≡ true
    → is_compressed path ≡ false → ((reads (path_below folder path)).run held).outcome ≡ value bytes
    → (o : Option ModuleFault) → fact_fault path bytes ≡ o
    → FactsCome held folder path (facts_outcome path bytes o)
unfolding facts_outcome
facts-found held folder path bytes kind plain came None passed =
    (its-path path bytes, valid-file held folder path bytes kind came passed)
facts-found held folder path bytes kind plain came (Some fault) failed =
    bad plain bytes came fault failed

facts-come : (held : Contents) (folder path : List ℕ) → is_module_path path ≡ true
    → FactsCome held folder path ((reads_facts folder path).run held).outcome
facts-come held folder path kind = by_test (is_compressed path) refl
  where
    by_test : (test : Bool) → is_compressed path ≡ test
        → FactsCome held folder path
        ((when test
        then ends (Refused (Compressed path))
        else (reads (path_below folder path) >>= checked path)).run held).outcome
    by_test true is =
        subst (FactsCome held folder path)
        (sym (outcome-given (end (Refused (Compressed path))) held)) (compressed is)
    by_test false is =
        let file = path_below folder path in
        by-first (FactsCome held folder path) (reads file) (checked path) held
        (reads-file (end (NoFile file)) file)
        (λ e ended. unread is e ended)
        (λ bytes came.
        subst (FactsCome held folder path)
        (sym (outcome-given (facts_outcome path bytes (fact_fault path bytes)) held))
        (facts-found held folder path bytes kind is came (fact_fault path bytes) refl))

-- what facts with those of one module more come to
abbrev AddsCome : Contents → List ℕ → List ℕ → List Facts → Outcome (List Facts) → Type 0
AddsCome held folder path before (value all) =
    (f : Facts) × (all ≡ before ++ f ∷ []) × (f.path ≡ path) × IsModuleFile held folder f
AddsCome held folder path before (end e) = IsBadModule held folder path e

adds-come : (held : Contents) (folder path : List ℕ) (before : List Facts)
    → is_module_path path ≡ true
    → AddsCome held folder path before ((adds_facts folder before path).run held).outcome
adds-come held folder path before kind =
    by-first (AddsCome held folder path before) (reads_facts folder path) (added before) held
    (only-facts folder path)
    (λ e ended. subst (FactsCome held folder path) ended (facts-come held folder path kind))
    (λ f came.
    let known : FactsCome held folder path (value f)
    = subst (FactsCome held folder path) came (facts-come held folder path kind) in
    subst (AddsCome held folder path before) (sym (outcome-given (value (before ++ f ∷ [])) held))
    (f, refl, known.0, known.1))

-- ---- modules

-- all of some modules were read after others, and are valid
record AllValid (held : Contents) (folder : List ℕ) (paths : List (List ℕ))
    (before all : List Facts) : Type 0 where
  more : List Facts
  is : all ≡ before ++ more
  valid : AreValid held folder paths more []

-- the first ones are valid, and then one is refused
record OneBad (held : Contents) (folder : List ℕ) (paths : List (List ℕ)) (e : End) : Type 0 where
  more : List Facts
  path : List ℕ
  later : List (List ℕ)
  valid : AreValid held folder paths more (path ∷ later)
  refused : IsBadModule held folder path e

abbrev ModulesCome : Contents → List ℕ → List (List ℕ) → List Facts → Outcome (List Facts) → Type 0
ModulesCome held folder paths before (value all) = AllValid held folder paths before all
ModulesCome held folder paths before (end e) = OneBad held folder paths e

none-valid : (held : Contents) (folder : List ℕ) (paths : List (List ℕ))
    → AreValid held folder paths [] paths
none-valid held folder paths = record { split = refl; valid = λ f in'. absurd in' }

valid-first : (held : Contents) (folder path : List ℕ) (paths left : List (List ℕ)) (f : Facts)
    (more : List Facts)
    → f.path ≡ path → IsModuleFile held folder f → AreValid held folder paths more left
    → AreValid held folder (path ∷ paths) (f ∷ more) left
valid-first held folder path paths left f more at file v = record {
  split
      = ap (λ ps. path ∷ ps) v.split
      ∙ ap (λ p. p ∷ (map (λ (g : Facts). g.path) more ++ left)) (sym at);
  valid
      = λ g in'. elim in'
      [ inl same ↦ subst (IsModuleFile held folder) same file | inr later ↦ v.valid g later ];
}

one-more : (held : Contents) (folder path : List ℕ) (paths : List (List ℕ))
    (before all : List Facts) (f : Facts)
    → all ≡ before ++ f ∷ [] → f.path ≡ path → IsModuleFile held folder f
    → (o : Outcome (List Facts)) → ModulesCome held folder paths all o
    → ModulesCome held folder (path ∷ paths) before o
one-more held folder path paths before all f pushed at file (value whole) h = record {
  more = f ∷ h.more;
  is = h.is ∙ ap (λ fs. fs ++ h.more) pushed ∙ append_assoc before (f ∷ []) h.more;
  valid = valid-first held folder path paths [] f h.more at file h.valid;
}
one-more held folder path paths before all f pushed at file (end e) h = record {
  more = f ∷ h.more;
  path = h.path;
  later = h.later;
  valid = valid-first held folder path paths (h.path ∷ h.later) f h.more at file h.valid;
  refused = h.refused;
}

modules-come : (held : Contents) (folder : List ℕ) (paths : List (List ℕ))
    → All (λ p. is_module_path p ≡ true) paths → (before : List Facts)
    → ModulesCome held folder paths before ((the_others folder paths before).run held).outcome
modules-come held folder [] kinds before =
    subst (ModulesCome held folder [] before) (sym (outcome-given (value before) held))
    (record { more = []; is = sym (append-nil before); valid = none-valid held folder [] })
modules-come held folder (path ∷ paths) kinds before =
    let come
    = adds-come held folder path before
    (All-head (λ p. is_module_path p ≡ true) path paths kinds) in
    by-first (ModulesCome held folder (path ∷ paths) before) (adds_facts folder before path)
    (the_others folder paths) held (only-module folder before path)
    (λ e ended. record {
      more = [];
      path = path;
      later = paths;
      valid = none-valid held folder (path ∷ paths);
      refused = subst (AddsCome held folder path before) ended come;
    })
    (λ all came.
    let one : AddsCome held folder path before (value all)
    = subst (AddsCome held folder path before) came come in
    one-more held folder path paths before all one.0 one.1 one.2 one.3
    ((the_others folder paths all).run held).outcome
    (modules-come held folder paths (All-tail (λ p. is_module_path p ≡ true) path paths kinds) all))

-- valid modules of the paths of a tree are a tree
valid-facts : (held : Contents) (folder : List ℕ) (tree : List Facts)
    → ((f : Facts) → Member f tree → IsModuleFile held folder f)
    → AllByRecursion (λ (f : Facts). AreFactsAt f.path f) tree
valid-facts held folder [] valid = tt
valid-facts held folder (f ∷ fs) valid =
    let h = valid f (inl refl) in (
      known-facts f.path h.bytes f refl h.passed h.facts,
      valid-facts held folder fs (λ g later. valid g (inr later)),
    )

pub valid-tree : (held : Contents) (folder : List ℕ) (paths : List (List ℕ)) (tree : List Facts)
    → AreTreePaths paths → AreValid held folder paths tree [] → IsTree tree
valid-tree held folder paths tree known v =
    let count = length paths in
    let whole : AreFactsOf paths count tree = record {
      named
          = sym (append-nil (map (λ (f : Facts). f.path) tree)) ∙ sym v.split
          ∙ sym (take_all count paths (omega arith));
      each
          = All-from_recursion (λ (f : Facts). AreFactsAt f.path f) tree
          (valid-facts held folder tree v.valid);
    } in
    facts-tree paths count tree (omega arith) known whole

-- ---- the relation

-- a tree was read, and has a relation
pub record IsRelated (held : Contents) (asked : DepmodWords) (made : KernelTree) : Type 0 where
  pub tree : List Facts
  pub table : Table
  pub is : record { facts = tree; kernel = seen_kernel table } ≡ made
  pub read : IsRead held asked tree table
  pub related : relation_fault (modules_of tree) (seen_kernel table) ≡ None

abbrev pub RelatedCome : Contents → DepmodWords → Outcome KernelTree → Type 0
RelatedCome held asked (value made) = IsRelated held asked made
RelatedCome held asked (end e) = IsEnded held asked e

-- a cycle is what refuses it first
cycle-first : (tree : List Module) (kernel : SeenKernel) (i : ℕ) (is : List ℕ)
    → cycle (uses_at tree kernel) (below (length tree)) ≡ i ∷ is
    → relation_refusal tree kernel ≡ Some (Cycle (map (name_at tree) (i ∷ is)))
cycle-first tree kernel i is found =
    let deps : Option Refusal
    = option_map (λ _. TooManyDependencies)
    (deps_fault (sum_by length (dependencies tree kernel))) in
    let pairs : Option Refusal
    = option_map (λ _. TooManyDoubles) (doubles_fault (length (doubles kernel tree))) in
    ap (λ places. first (cycle_refusal tree places ∷ deps ∷ pairs ∷ [])) found

same-refusal : (a b : Refusal) → Some a ≡ Some b → a ≡ b
same-refusal a b is = cc

refusal-ends : (held : Contents) (asked : DepmodWords) (tree : List Facts) (table : Table)
    → IsRead held asked tree table → (refusal : Refusal)
    → relation_refusal (modules_of tree) (seen_kernel table) ≡ Some refusal → (places : List ℕ)
    → cycle_in tree table ≡ places → IsEnded held asked (Refused refusal)
refusal-ends held asked tree table read refusal failed [] none =
    too_many tree table read none refusal failed
refusal-ends held asked tree table read refusal failed (i ∷ is) found =
    let ms = modules_of tree in
    let kernel = seen_kernel table in
    let here : cycle (uses_at ms kernel) (below (length ms)) ≡ i ∷ is =
    ap (λ n. cycle (uses_at ms kernel) (below n)) (length-map tree module_of) ∙ found in
    let named : Cycle (map (name_at ms) (i ∷ is)) ≡ refusal
    = same-refusal _ refusal (sym (cycle-first ms kernel i is here) ∙ failed) in
    subst (λ r. IsEnded held asked (Refused r)) named (has_cycle tree table read i is found)

relation-comes : (held : Contents) (asked : DepmodWords) (tree : List Facts) (table : Table)
    → IsRead held asked tree table → (o : Option Refusal)
    → relation_refusal (modules_of tree) (seen_kernel table) ≡ o
    → RelatedCome held asked
    (value_unless (λ refusal. refusal) o (record { facts = tree; kernel = seen_kernel table }))
relation-comes held asked tree table read None passed =
    record {
      tree = tree;
      table = table;
      is = refl;
      read = read;
      related = no-fault (modules_of tree) (seen_kernel table) passed;
    }
relation-comes held asked tree table read (Some refusal) failed =
    refusal-ends held asked tree table read refusal failed (cycle_in tree table) refl

outcome-comes : (held : Contents) (asked : DepmodWords) (tree : List Facts) (table : Table)
    → IsRead held asked tree table
    → RelatedCome held asked
    (relation_outcome (record { facts = tree; kernel = seen_kernel table }))
unfolding relation_outcome
outcome-comes held asked tree table read =
    relation-comes held asked tree table read
    (relation_refusal (modules_of tree) (seen_kernel table)) refl

-- after the tree and the kernel's table were read
modules-related : (held : Contents) (asked : DepmodWords) (search paths : List (List ℕ))
    (table : Table)
    → ((reads_search asked.config).run held).outcome ≡ value search
    → ((reads_tree (modules_of_request asked) search).run held).outcome ≡ value paths
    → ((reads_kernel asked.filesyms asked.symvers).run held).outcome ≡ value table
    → RelatedCome held asked ((with_kernel (modules_of_request asked) paths table).run held).outcome
modules-related held asked search paths table searched chosen tabled =
    let folder = modules_of_request asked in
    let found : HasTree held asked paths table
    = record { search = search; searched = searched; chosen = chosen; kernel = tabled } in
    let come = modules-come held folder paths (paths-came held folder search paths chosen).1 [] in
    by-first (RelatedCome held asked) (reads_modules_facts folder paths) (related table) held
    (only-modules folder paths)
    (λ e ended.
    let h : OneBad held folder paths e = subst (ModulesCome held folder paths []) ended come in
    bad_module paths table found h.more h.path h.later h.valid e h.refused)
    (λ facts came.
    let h : AllValid held folder paths [] facts
    = subst (ModulesCome held folder paths []) came come in
    let read : IsRead held asked facts table
    = record {
      paths = paths;
      found = found;
      modules = subst (λ fs. AreValid held folder paths fs []) (sym h.is) h.valid;
    } in
    subst (RelatedCome held asked)
    (sym (outcome-given
    (relation_outcome (record { facts = facts; kernel = seen_kernel table })) held))
    (outcome-comes held asked facts table read))

pub related-comes : (held : Contents) (asked : DepmodWords)
    → RelatedCome held asked
    ((reads_related (modules_of_request asked) asked.config asked.filesyms asked.symvers).run
    held).outcome
related-comes held asked =
    let folder = modules_of_request asked in
    let file = asked.filesyms in
    let symvers = asked.symvers in
    by-first (RelatedCome held asked) (reads_search asked.config) (with_search folder file symvers)
    held (only-search asked.config)
    (λ e ended. no_search e ended)
    (λ search searched.
    by-first (RelatedCome held asked) (reads_tree folder search) (with_paths folder file symvers)
    held (only-tree folder search)
    (λ e ended. no_tree search searched e ended)
    (λ paths chosen.
    by-first (RelatedCome held asked) (reads_kernel file symvers) (with_kernel folder paths) held
    (only-kernel file symvers)
    (λ e ended. no_table search paths searched chosen e ended)
    (λ table tabled. modules-related held asked search paths table searched chosen tabled)))
