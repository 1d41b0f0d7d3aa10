-- The items of a tree, one module after the other.
use Rattle.std.proofs.Common.{◌≡◌, ℕ, ◌+◌, ◌<◌, List, [], ◌∷◌, ◌++◌, length, map, take, get_or}
use Rattle.std.proofs.Common.{Some, AllPairs, refl, sym, ap, ◌∙◌, append_assoc, arith}
use Rattle.std.proofs.lemmas.Bool.{false_from_ne_true}
use Rattle.std.proofs.lemmas.Grind.{flat_map-append}
use Rattle.std.proofs.lemmas.List.{get_or-map, length-map, map-append, take_more, append-nil}
use Rattle.std.proofs.lemmas.List.Sums.{position_or_len_is}
use Rattle.std.specs.List.{flat_map}
use Rattle.std.specs.Str.{bytes_eq}
use Rattle.module_symbols.specs.declared.exports.Export.{Export as StatedExport}
use Rattle.module_facts.specs.declared.facts.Facts.{Facts}
use Rattle.symbol_binding.specs.Symbols.{Export, Module}
use Rattle.symbol_binding.specs.Provider.{ByModule, Provided}
use Rattle.kernel_exports.specs.declared.kernel.KernelExport.{KernelExport}
use Rattle.kernel_exports.specs.declared.kernel.Kernel.{Kernel}
use Rattle.provider_rel.specs.Faces.{export_of_facts, module_of, modules_of, kernel_of, seen_export}
use Rattle.provider_rel.specs.Tree.{IsTree}
use Rattle.provider_rel.specs.Relation.{place}
use Rattle.provider_rel.specs.Items.{Item, kernel_item, module_item, by_kernel, by_module}
use Rattle.provider_rel.specs.Items.{all_provided, item_of, items}
use Rattle.kernel_exports.proofs.NameSteps.{bytes-refl, bytes-same}

-- a kernel's exports as items
pub kernel-items : (tree : List Module) (es : List KernelExport)
    → map kernel_item es ≡ map (item_of tree) (map by_kernel (map seen_export es))
kernel-items tree [] = refl
kernel-items tree (e ∷ es) = ap (λ l. kernel_item e ∷ l) (kernel-items tree es)

provided : (m : Module) → List Export → List (Provided Module)
provided m es = map (λ e. record { owner = ByModule m; export = e }) es

-- a module's exports as items
module-items : (tree : List Module) (m : Module) (i : ℕ) → place tree m ≡ i
    → (es : List StatedExport)
    → map (module_item i m.path) es ≡ map (item_of tree) (provided m (map export_of_facts es))
unfolding provided
module-items tree m i is [] = refl
module-items tree m i is (e ∷ es) =
    ap (λ at. record { place = Some at; path = m.path; export = export_of_facts e }
    ∷ map (module_item i m.path) es) (sym is)
    ∙ ap (λ l. item_of tree (record { owner = ByModule m; export = export_of_facts e }) ∷ l)
    (module-items tree m i is es)

-- the place of a module of a tree
pub place-at : (tree : List Facts) → AllPairs (λ (a b : Facts). a.name ≡ b.name → ⊥) tree
    → (i : ℕ) (f : Facts) → i < length tree → f ≡ get_or tree i f
    → place (modules_of tree) (module_of f) ≡ i
place-at tree distinct i f within is =
    position_or_len_is (λ (n : Module). bytes_eq n.face.name f.name) (modules_of tree) i
    (module_of f)
    (omega (arith, length-map tree module_of))
    (λ k before. false_from_ne_true _ (λ same. distinct k i f before within
    (ap (λ (m : Module). m.face.name)
    (sym (get_or-map module_of tree k f (module_of f) (omega arith)))
    ∙ bytes-same _ f.name same ∙ ap (λ (g : Facts). g.name) is)))
    (λ inside. ap (λ (m : Module). bytes_eq m.face.name f.name)
    (get_or-map module_of tree i f (module_of f) within)
    ∙ ap (λ (g : Facts). bytes_eq g.name f.name) (sym is) ∙ bytes-refl f.name)

-- the items of the kernel and of a front of the tree
pub items_of_front : List Facts → Kernel → ℕ → List Item
items_of_front tree kernel i =
    map (item_of (modules_of tree))
    (map by_kernel (map seen_export kernel.exports)
    ++ flat_map by_module (modules_of (take i tree)))

pub front-none : (tree : List Facts) (kernel : Kernel) (start : List Item)
    → start ≡ [] ++ map kernel_item kernel.exports → start ≡ items_of_front tree kernel 0
unfolding items_of_front
front-none tree kernel start is =
    is ∙ kernel-items (modules_of tree) kernel.exports
    ∙ ap (map (item_of (modules_of tree)))
    (sym (append-nil (map by_kernel (map seen_export kernel.exports))))

pub front-more : (tree : List Facts) (kernel : Kernel) → IsTree tree → (i : ℕ) (f : Facts)
    → i < length tree → f ≡ get_or tree i f → (now then : List Item)
    → now ≡ items_of_front tree kernel i →
    then ≡ now ++ map (module_item i f.path) f.exports →
    then ≡ items_of_front tree kernel (i + 1)
unfolding items_of_front provided
front-more tree kernel is_tree i f within is now then so_far more =
    let T = modules_of tree in
    let K = map by_kernel (map seen_export kernel.exports) in
    let done = flat_map by_module (modules_of (take i tree)) in
    let more_modules : flat_map by_module (modules_of (take (i + 1) tree))
    ≡ done ++ by_module (module_of f)
    =
    ap (λ l. flat_map by_module (modules_of l))
    (take_more tree i f within ∙ ap (λ g. take i tree ++ g ∷ []) (sym is))
    ∙ ap (flat_map by_module) (map-append module_of (take i tree) (f ∷ []))
    ∙ flat_map-append by_module (modules_of (take i tree)) (module_of f ∷ [])
    ∙ ap (λ l. done ++ l) (append-nil (by_module (module_of f))) in
    more
    ∙ ap (λ l. l ++ map (module_item i f.path) f.exports) so_far
    ∙ ap (λ l. map (item_of T) (K ++ done) ++ l)
    (module-items T (module_of f) i (place-at tree is_tree.distinct i f within is) f.exports)
    ∙ sym (map-append (item_of T) (K ++ done) (by_module (module_of f)))
    ∙ ap (map (item_of T))
    (append_assoc K done (by_module (module_of f)) ∙ ap (λ l. K ++ l) (sym more_modules))

pub front-all : (tree : List Facts) (kernel : Kernel) (i : ℕ) → take i tree ≡ tree
    → items_of_front tree kernel i ≡ items (modules_of tree) (kernel_of kernel)
unfolding items_of_front items all_provided
front-all tree kernel i all =
    ap (λ l. map (item_of (modules_of tree))
    (map by_kernel (map seen_export kernel.exports) ++ flat_map by_module (modules_of l)))
    all
