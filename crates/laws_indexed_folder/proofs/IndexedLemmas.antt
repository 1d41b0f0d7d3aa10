-- Folders that are as they were indexed.
use Rattle.std.proofs.Common.{◌≡◌, ◌∙◌, ◌≤◌, ◌^◌, ℕ, Bool, true, false, List, [], ◌∷◌, length}
use Rattle.std.proofs.Common.{Option, Some, None, refl, sym, ap, subst, arith}
use Rattle.std.specs.Prelude.{min, nat_lt, if◌then◌else◌}
use Rattle.std.proofs.lemmas.Bool.Decides.{nat_tests}
use Rattle.km_names.specs.Limit.{file_limit}
use Rattle.km_names.specs.Path.{path_below}
use Rattle.outside_calls.specs.Contents.{Contents}
use Rattle.index_format.specs.Map.{KeyValues}
use Rattle.index_format.specs.File.{file}
use Rattle.index_format.specs.Holds.{Holds}
use Rattle.module_facts.specs.declared.facts.Facts.{Facts}
use Rattle.module_facts.specs.Facts.{facts_of, object_facts}
use Rattle.module_facts.specs.Faults.{fact_fault}
use Rattle.relation_order.specs.Sets.{below}
use Rattle.relation_order.specs.Cycle.{cycle}
use Rattle.symbol_binding.specs.Symbols.{Module, Kernel as SeenKernel}
use Rattle.symbol_binding.specs.Unmet.{unmet}
use Rattle.unmet_file.specs.Unmet.{file_text, unmet_of}
use Rattle.kernel_exports.specs.declared.kernel.Kernel.{Kernel}
use Rattle.provider_rel.specs.Faces.{module_of, modules_of, kernel_of}
use Rattle.provider_rel.specs.Tree.{IsTreeModule}
use Rattle.provider_rel.specs.Relation.{cycle_fault, dependencies, relation_fault, uses_at}
use Rattle.depmod_core.specs.declared.file.OutputFile.{OutputFile}
use Rattle.depmod_core.specs.declared.file.OutputFile.TheVariants.{Dep, DepBin, Alias, AliasBin}
use Rattle.depmod_core.specs.declared.file.OutputFile.TheVariants.{Softdep, Symbols, SymbolsBin}
use Rattle.depmod_core.specs.declared.file.OutputFile.TheVariants.{BuiltinBin, Unmet}
use Rattle.depmod_core.specs.declared.fault.OutputFault.{OutputFault}
use Rattle.depmod_core.specs.declared.fault.OutputFault.TheVariants.{OutputTooLarge}
use Rattle.depmod_core.specs.declared.files.OutputFiles.{OutputFiles}
use Rattle.depmod_core.specs.Dependencies.{dep_map}
use Rattle.depmod_core.proofs.UnmetSteps.{unmet-back}
use Rattle.depmod_core.specs.Files.{file_name, files, files_by, output_fault, size_fault}
use Rattle.laws_closed_plans.proofs.ListLemmas.{first-none}
use Rattle.laws_closed_plans.proofs.UnmetLemmas.{all-member}
use Rattle.laws_indexed_folder.specs.Index.{IsAtPath}
use Rattle.laws_indexed_folder.specs.Binding.{StandsAsIndexed}
use Rattle.laws_indexed_folder.specs.Indexed.{HasFile, IsModuleFile, Indexed, ReadsAsIndexed}
use Rattle.laws_indexed_folder.specs.Indexed.{FoldersReadAsIndexed}
use Rattle.laws_indexed_folder.proofs.HoldLemmas.{dep-holds}
use Rattle.std.proofs.lemmas.List.{length-map}

-- a path has one file
pub one-file : (held : Contents) (path a b : List ℕ) → HasFile held path a → HasFile held path b
    → a ≡ b
one-file held path a b has_a has_b =
    let e : ◌≡◌ {A = Option (List ℕ)} (Some a) (Some b) = sym has_a ∙ has_b in cc

-- a file that isn't too large
pub size-passed : (name : OutputFile) (bytes : List ℕ) → size_fault name bytes ≡ None
    → length bytes ≤ 2 ^ 26
size-passed name bytes none =
    go (nat_lt file_limit (length bytes))
    (OutputTooLarge (file_name name) (min (length bytes) 18446744073709551615)) refl none
  where
    go : (b : Bool) (fault : OutputFault) → nat_lt file_limit (length bytes) ≡ b
        → (if b then Some fault else None) ≡ None → length bytes ≤ 2 ^ 26
    go true fault is none = absurd cc
    go false fault is none = grind (arith, nat_tests)

-- no cycle is named
no-cycle : (tree : List Module) (places : List ℕ) → cycle_fault tree places ≡ None → places ≡ []
no-cycle tree [] none = refl
no-cycle tree (i ∷ is) none = absurd cc

pub acyclic : (tree : List Facts) (kernel : SeenKernel)
    → relation_fault (modules_of tree) kernel ≡ None
    → cycle (uses_at (modules_of tree) kernel) (below (length tree)) ≡ []
unfolding relation_fault
acyclic tree kernel none =
    let h
    = first-none (cycle_fault (modules_of tree)
    (cycle (uses_at (modules_of tree) kernel) (below (length (modules_of tree))))) _ none in
    ap (λ n. cycle (uses_at (modules_of tree) kernel) (below n)) (sym (length-map tree module_of))
    ∙ no-cycle (modules_of tree)
    (cycle (uses_at (modules_of tree) kernel) (below (length (modules_of tree)))) h.0

at-path : (held : Contents) (folder : List ℕ) (f : Facts) → IsTreeModule f
    → IsModuleFile held folder f → IsAtPath f
unfolding object_facts
at-path held folder f good there = record {
  kind = there.kind;
  name = ap (λ (g : Facts). g.name) there.facts;
  visible = good.path;
  colon = good.colon;
}

module _ (held : Contents) (folder : List ℕ) (tree : List Facts) (kernel : Kernel)
    (builtin : List ℕ) (indexed : Indexed held folder tree kernel builtin) where
  abbrev made : OutputFiles
  made = files tree (kernel_of kernel) builtin

  abbrev own : KeyValues
  own = dep_map tree (dependencies (modules_of tree) (kernel_of kernel))

  dep-file : made.dep_bin ≡ file own
  unfolding files files_by
  dep-file = refl

  dep-small : length (file own) ≤ 2 ^ 26
  unfolding output_fault
  dep-small =
      let later =
      size_fault Alias made.alias ∷ size_fault AliasBin made.alias_bin
      ∷ size_fault Softdep made.softdep ∷ size_fault Symbols made.symbols
      ∷ size_fault SymbolsBin made.symbols_bin ∷ size_fault BuiltinBin made.builtin_bin
      ∷ size_fault Unmet made.unmet ∷ [] in
      let h
      = first-none (size_fault Dep made.dep) (size_fault DepBin made.dep_bin ∷ later)
      indexed.small in
      let k = first-none (size_fault DepBin made.dep_bin) later h.1 in
      subst (λ b. length b ≤ 2 ^ 26) dep-file (size-passed DepBin made.dep_bin k.0)

  stands : (bytes : List ℕ) (dep : KeyValues)
      → HasFile held (path_below folder (file_name DepBin)) bytes → Holds bytes dep
      → StandsAsIndexed tree kernel dep
  stands bytes dep there holds =
      let same : bytes ≡ file own
      = one-file held (path_below folder (file_name DepBin)) bytes made.dep_bin there
      indexed.made.dep
      ∙ dep-file in
      let made_holds : Holds bytes own
      = subst (λ b. Holds b own) (sym same)
      (dep-holds tree (dependencies (modules_of tree) (kernel_of kernel)) indexed.is_tree
      dep-small) in
      record {
        known = indexed.known;
        names = indexed.is_tree.distinct;
        paths
            = λ f in'. at-path held folder f
            (all-member IsTreeModule f tree indexed.is_tree.modules in')
            (indexed.modules f in');
        acyclic = acyclic tree (kernel_of kernel) indexed.related;
        map = λ name. sym (holds.values name) ∙ made_holds.values name;
      }

  unmet-file : made.unmet ≡ file_text (unmet (modules_of tree) (kernel_of kernel))
  unfolding files files_by
  unmet-file = refl

  pub reads : ReadsAsIndexed held folder tree kernel
  reads = record {
    modules = λ f bytes in' there.
        let h = indexed.modules f in' in
        let same : bytes ≡ h.bytes
        = one-file held (path_below folder f.path) bytes h.bytes there h.there in
        (ap (fact_fault f.path) same ∙ h.passed, ap (facts_of f.path) same ∙ sym h.facts);
    lines = stands;
    unmet = λ path bytes there.
        ap (unmet_of path)
        (one-file held (path_below folder (file_name Unmet)) bytes made.unmet there
        indexed.made.unmet
        ∙ unmet-file)
        ∙ unmet-back tree (kernel_of kernel) indexed.is_tree path;
  }

pub folders-read : FoldersReadAsIndexed
folders-read held folder tree kernel builtin indexed = reads held folder tree kernel builtin indexed
