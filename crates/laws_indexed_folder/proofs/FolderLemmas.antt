-- Loads from a folder that is as it was indexed.
use Rattle.std.proofs.Common.{◌≡◌, ◌∙◌, ℕ, List, [], ◌∷◌, None, refl, sym, ap, subst, inl, inr}
use Rattle.std.specs.Prelude.{Result, Ok, IsOk}
use Rattle.km_names.specs.Path.{path_below}
use Rattle.km_names.specs.Statements.{LinePlace}
use Rattle.outside_calls.specs.Contents.{Contents}
use Rattle.index_format.specs.Map.{KeyValues}
use Rattle.module_facts.specs.declared.facts.Facts.{Facts}
use Rattle.module_facts.specs.declared.module.Module.{Module}
use Rattle.module_facts.specs.Facts.{facts_of}
use Rattle.module_facts.specs.Faults.{fact_fault}
use Rattle.symbol_binding.specs.Unmet.{unmet}
use Rattle.symbol_binding.specs.declared.unbound.Unbound.{Unbound}
use Rattle.kernel_exports.specs.declared.kernel.Kernel.{Kernel}
use Rattle.provider_rel.specs.Faces.{modules_of, kernel_of}
use Rattle.module_region.specs.declared.region.Region.{Region}
use Rattle.model_loader.specs.Machine.{new_machine}
use Rattle.depmod_core.specs.declared.file.OutputFile.TheVariants.{Unmet}
use Rattle.depmod_core.specs.Files.{file_name}
use Rattle.laws_closed_plans.specs.Members.{Member}
use Rattle.laws_closed_plans.specs.Lines.{AreClosed}
use Rattle.laws_closed_plans.specs.Loads.{load_all}
use Rattle.laws_closed_plans.specs.Binding.{names_of, IsPlanned}
use Rattle.laws_indexed_folder.specs.Index.{lines_of_map}
use Rattle.laws_indexed_folder.specs.Binding.{StandsAsIndexed}
use Rattle.laws_indexed_folder.specs.Indexed.{HasFile, Indexed}
use Rattle.laws_indexed_folder.specs.Folder.{AreModulesOf, FilesAreValid, FoldersBind, IsFileOf}
use Rattle.laws_indexed_folder.specs.Folder.{IsModuleOf, IsRead}
use Rattle.laws_indexed_folder.proofs.BindingLemmas.{indexed-plans-bind}
use Rattle.laws_indexed_folder.proofs.IndexedLemmas.{folders-read}
use Rattle.laws_indexed_folder.proofs.NamedLemmas.{lines-are-of-tree}

same-lines : (a : Result (List Unbound) LinePlace) (x y : List Unbound) → a ≡ Ok x → a ≡ Ok y
    → x ≡ y
same-lines a x y is_x is_y =
    let e : ◌≡◌ {A = Result (List Unbound) LinePlace} (Ok x) (Ok y) = sym is_x ∙ is_y in cc

module _ (held : Contents) (folder : List ℕ) (tree : List Facts) (kernel : Kernel)
    (builtin : List ℕ) (dep : KeyValues) (lines : List Unbound)
    (indexed : Indexed held folder tree kernel builtin) (read : IsRead held folder dep lines) where
  stands : StandsAsIndexed tree kernel dep
  stands
      = (folders-read held folder tree kernel builtin indexed).lines read.index dep read.index_there
      read.index_holds

  own_lines : lines ≡ unmet (modules_of tree) (kernel_of kernel)
  own_lines =
      let path = path_below folder (file_name Unmet) in
      same-lines _ lines (unmet (modules_of tree) (kernel_of kernel)) read.text_states
      ((folders-read held folder tree kernel builtin indexed).unmet path read.text
      read.text_there)

  pub valid : (name path bytes : List ℕ) → IsFileOf held folder dep name path bytes
      → (fact_fault path bytes ≡ None) × ((facts_of path bytes).name ≡ name)
      × Member (facts_of path bytes) tree
  valid name path bytes file =
      let line = (lines-are-of-tree tree kernel dep stands).0 name file.value file.first in
      let f = line.owner in
      let at : path ≡ f.path = sym file.own ∙ line.own in
      let h
      = (folders-read held folder tree kernel builtin indexed).modules f bytes line.in_tree
      (subst (λ p. HasFile held (path_below folder p) bytes) at file.there) in
      let same : facts_of path bytes ≡ f = ap (λ p. facts_of p bytes) at ∙ h.1 in (
        ap (λ p. fact_fault p bytes) at ∙ h.0,
        ap (λ (g : Facts). g.name) same ∙ line.named,
        subst (λ g. Member g tree) (sym same) line.in_tree,
      )

  module-in : (name : List ℕ) (m : Module) → IsModuleOf held folder dep name m
      → (m.facts.name ≡ name) × Member m.facts tree
  module-in name m is =
      let h = valid name is.path is.bytes is.file in
      (ap (λ (g : Facts). g.name) is.facts ∙ h.1, subst (λ g. Member g tree) (sym is.facts) h.2)

  names-are : (names : List (List ℕ)) (ms : List Module) → AreModulesOf held folder dep names ms
      → names ≡ names_of ms
  names-are [] [] are = refl
  names-are [] (m ∷ ms) are = absurd are
  names-are (name ∷ names) [] are = absurd are
  names-are (name ∷ names) (m ∷ ms) are =
      let own : name ≡ m.facts.name = sym (module-in name m are.0).0 in
      ap (λ n. n ∷ names) own ∙ ap (λ ns. m.facts.name ∷ ns) (names-are names ms are.1)

  all-in : (names : List (List ℕ)) (ms : List Module) → AreModulesOf held folder dep names ms
      → (m : Module) → Member m ms → Member m.facts tree
  all-in [] [] are m in' = absurd in'
  all-in [] (n ∷ ms) are m in' = absurd are
  all-in (name ∷ names) [] are m in' = absurd are
  all-in (name ∷ names) (n ∷ ms) are m (inl is)
      = subst (λ (x : Module). Member x.facts tree) is (module-in name n are.0).1
  all-in (name ∷ names) (n ∷ ms) are m (inr later) = all-in names ms are.1 m later

  pub planned : (addressed : Kernel) (region : Region) (loaded plan : List (List ℕ))
      (listed steps : List Module)
      → kernel_of addressed ≡ kernel_of kernel → AreModulesOf held folder dep loaded listed
      → AreModulesOf held folder dep plan steps
      → IsOk (load_all (new_machine addressed region) listed)
      → AreClosed (lines_of_map dep) lines loaded plan
      → IsPlanned tree kernel (lines_of_map dep) addressed region listed steps
  planned addressed region loaded plan listed steps same are_listed are_steps load closed = record {
    same_table = same;
    listed_of = all-in loaded listed are_listed;
    listed_load = load;
    plan_of = all-in plan steps are_steps;
    closed =
        subst (λ ls. AreClosed (lines_of_map dep) ls (names_of listed) (names_of steps)) own_lines
        (subst (λ ns. AreClosed (lines_of_map dep) lines ns (names_of steps))
        (names-are loaded listed are_listed)
        (subst (λ ns. AreClosed (lines_of_map dep) lines loaded ns) (names-are plan steps are_steps)
        closed));
  }

pub files-are-valid : FilesAreValid
files-are-valid held folder tree kernel builtin dep lines indexed read =
    valid held folder tree kernel builtin dep lines indexed read

pub folders-bind : FoldersBind
folders-bind held folder tree kernel builtin dep lines indexed read addressed region loaded plan
    listed steps same are_listed are_steps load closed
    =
    indexed-plans-bind tree kernel dep addressed region listed steps
    (stands held folder tree kernel builtin dep lines indexed read)
    (planned held folder tree kernel builtin dep lines indexed read addressed region loaded plan
    listed steps same are_listed are_steps load closed)
