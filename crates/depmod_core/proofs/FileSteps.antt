-- The files of a tree over a kernel, by a relation.
use Rattle.std.proofs.Common.{◌≡◌, sym, ap, subst, ◌∙◌, ◌⊎◌, ⊎_elim, inl, inr, ℕ, List, length}
use Rattle.std.proofs.Common.{Some, None, Ok, Err}
use Rattle.std.specs.Prelude.{Result, IfOk, IfErr, OnOk}
use Rattle.std.specs.Result.{result_and}
use Rattle.std.proofs.lemmas.List.{length-map}
use Rattle.std.proofs.lemmas.List.FromFn.{length-range_with_len}
use Rattle.relation_order.specs.Sets.{below}
use Rattle.relation_order.specs.Closures.{closure}
use Rattle.km_names.specs.Statements.{unless_fault}
use Rattle.symbol_binding.specs.Symbols.{Kernel}
use Rattle.module_facts.specs.declared.facts.Facts.{Facts}
use Rattle.provider_rel.specs.declared.relation.Relation.{Relation}
use Rattle.provider_rel.specs.Faces.{module_of, modules_of}
use Rattle.provider_rel.specs.Relation.{dependencies, uses_at}
use Rattle.provider_rel.specs.Seen.{IsRelation, closures_by, obstacles_by}
use Rattle.depmod_core.specs.declared.fault.OutputFault.{OutputFault}
use Rattle.depmod_core.specs.declared.fault.OutputFault.TheVariants.{Memory}
use Rattle.depmod_core.specs.declared.files.OutputFiles.{OutputFiles}
use Rattle.depmod_core.specs.Files.{files_by, files, output_fault, outputs_of, IsRelationOf}

-- a relation has a list for each module
pub closures_long : (tree : List Facts) (r : Relation) → IsRelationOf tree r
    → length (closures_by r) ≡ length tree
unfolding dependencies
closures_long tree r made =
    let modules = modules_of tree in
    ap length made.1.closures
    ∙ length-map (below (length modules))
    (closure (uses_at modules made.0) (below (length modules)))
    ∙ length-range_with_len 0 (length modules)
    ∙ length-map tree module_of

-- the files by a relation are those of the tree over its kernel
pub same-files : (tree : List Facts) (r : Relation) (builtin : List ℕ) (kernel : Kernel)
    → IsRelation (modules_of tree) kernel r
    → files_by tree (closures_by r) (obstacles_by r) builtin ≡ files tree kernel builtin
unfolding files
same-files tree r builtin kernel is = λ i. files_by tree (is.closures i) (is.obstacles i) builtin

-- what is made is handed out, unless there is a fault
handed-ok : {A B E : Type 0} (r : Result B E) (a : A) (Q : Type 0) (P : A → Type 0) → OnOk r Q
    → (Q → P a) → IfOk (result_and r (Ok a)) P
handed-ok (Ok b) a Q P is each = each is
handed-ok (Err e) a Q P is each = tt

pub and-ok : {A B E : Type 0} (r : Result B E) (a : A) (result : Result A E) (Q : Type 0)
    (P : A → Type 0)
    → result ≡ result_and r (Ok a) → OnOk r Q → (Q → P a) → IfOk result P
and-ok r a result Q P is one each = subst (λ s. IfOk s P) (sym is) (handed-ok r a Q P one each)

handed-err : {A B E : Type 0} (r : Result B E) (a : A) (P Q : E → Type 0) → IfErr r P
    → ((e : E) → P e → Q e) → IfErr (result_and r (Ok a)) Q
handed-err (Ok b) a P Q is each = tt
handed-err (Err e) a P Q is each = each e is

pub and-err : {A B E : Type 0} (r : Result B E) (a : A) (result : Result A E) (P Q : E → Type 0)
    → result ≡ result_and r (Ok a) → IfErr r P → ((e : E) → P e → Q e) → IfErr result Q
and-err r a result P Q is one each = subst (λ s. IfErr s Q) (sym is) (handed-err r a P Q one each)

-- a file that is too large
pub refused : (tree : List Facts) (r : Relation) (builtin : List ℕ) (e : OutputFault) (P : Type 0)
    → (P → output_fault (files_by tree (closures_by r) (obstacles_by r) builtin) ≡ Some e)
    → (e ≡ Memory) ⊎ P
    → (e ≡ Memory)
    ⊎ ((kernel : Kernel) → IsRelation (modules_of tree) kernel r
    → outputs_of tree kernel builtin ≡ Err e)
unfolding outputs_of
refused tree r builtin e P found is =
    ⊎_elim (λ memory. inl memory)
    (λ p. inr (λ kernel made.
    let same = same-files tree r builtin kernel made in
    ap (λ fault. unless_fault fault (files tree kernel builtin))
    (ap output_fault (sym same) ∙ found p)))
    is

-- no file is
pub made-all : (tree : List Facts) (r : Relation) (builtin : List ℕ) (fs : OutputFiles)
    → output_fault (files_by tree (closures_by r) (obstacles_by r) builtin) ≡ None
    → fs ≡ files_by tree (closures_by r) (obstacles_by r) builtin → (kernel : Kernel)
    → IsRelation (modules_of tree) kernel r → outputs_of tree kernel builtin ≡ Ok fs
unfolding outputs_of
made-all tree r builtin fs none is kernel made =
    let same = same-files tree r builtin kernel made in
    ap (λ fault. unless_fault fault (files tree kernel builtin)) (ap output_fault (sym same) ∙ none)
    ∙ ap Ok (sym same ∙ sym is)
