-- The relation of a tree from its parts.
use Rattle.std.proofs.Common.{◌≡◌, ℕ, zero, suc, ◌<◌, ◌≤◌, ◌^◌, ◌⊎◌, Bool, true, List, [], ◌∷◌}
use Rattle.std.proofs.Common.{◌++◌, length, map, get_or, cond, Option, Some, None, option_map}
use Rattle.std.proofs.Common.{option_and_then, unwrap_or, find, All, refl, sym, ap, subst, ◌∙◌, inl}
use Rattle.std.proofs.Common.{inr, arith}
use Rattle.std.specs.List.{flat_map, slice_get, sum_by}
use Rattle.std.proofs.lemmas.List.{length-map}
use Rattle.std.proofs.lemmas.List.Elements.{All-map, All-weaker}
use Rattle.std.proofs.lemmas.List.FromFn.{length-range_with_len}
use Rattle.std.specs.Option.{option_map_or}
use Rattle.km_names.specs.First.{first}
use Rattle.name_table.specs.NameTable.{Table, IsTableOf, place_of}
use Rattle.module_facts.specs.declared.facts.Facts.{Facts}
use Rattle.relation_order.specs.Sets.{Relation as Goes, has, below}
use Rattle.relation_order.specs.Cycle.{cycle}
use Rattle.relation_order.specs.Answer.{Closes}
use Rattle.relation_order.specs.Reached.{reached}
use Rattle.relation_order.specs.Closures.{closure}
use Rattle.relation_order.proofs.Lists.{range-has}
use Rattle.relation_order.proofs.LeastLaws.{least-members}
use Rattle.relation_order.proofs.PlaceSteps.{all-within}
use Rattle.relation_order.proofs.ReachedLaws.{reached-members}
use Rattle.relation_order.proofs.Saturation.{kept}
use Rattle.symbol_binding.specs.Unmet.{unmet, lines, doubles}
use Rattle.symbol_binding.specs.declared.unbound.Unbound.{Unbound}
use Rattle.provider_rel.specs.declared.unmet.UnmetKind.{UnmetKind}
use Rattle.provider_rel.specs.declared.unmet.UnmetKind.TheVariants.{Missing, Gpl, Version}
use Rattle.provider_rel.specs.declared.unmet.UnmetKind.TheVariants.{Namespace}
use Rattle.provider_rel.specs.Kinds.{test_of, line_of, lines_by}
use Rattle.provider_rel.proofs.UseLaw.{lines-are}
use Rattle.provider_rel.proofs.DoubleLaw.{Apart, ModulesApart, double-law}
use Rattle.symbol_binding.specs.Symbols.{Module, Kernel as SeenKernel}
use Rattle.provider_rel.specs.declared.provider.Provider.{Provider}
use Rattle.provider_rel.specs.declared.provider.Provider.TheVariants.{Nobody, Kernel as TheKernel}
use Rattle.provider_rel.specs.declared.fault.RelationFault.{RelationFault}
use Rattle.provider_rel.specs.declared.fault.RelationFault.TheVariants.{Cycle}
use Rattle.provider_rel.specs.Faces.{module_of, modules_of}
use Rattle.provider_rel.specs.Relation.{uses_at, name_at, cycle_fault, deps_fault, doubles_fault}
use Rattle.provider_rel.specs.Relation.{dependencies, relation_fault, provider_of}
use Rattle.provider_rel.specs.Items.{Item, items, item_name, is_named, item_answer, answer_at}
use Rattle.provider_rel.specs.Items.{item_doubles}
use Rattle.kernel_exports.proofs.NameSteps.{table-find}
use Rattle.provider_rel.proofs.ProviderLaw.{answer-is}

slice-map : {X Y : Type 0} (f : X → Y) (xs : List X) (i : ℕ)
    → slice_get (map f xs) i ≡ option_map f (slice_get xs i)
slice-map f [] i = refl
slice-map f (x ∷ xs) zero = refl
slice-map f (x ∷ xs) (suc i) = slice-map f xs i

-- the name at a place
pub name-some : (tree : List Facts) (p : ℕ) (f : Facts) → Some f ≡ slice_get tree p
    → f.name ≡ name_at (modules_of tree) p
name-some tree p f is =
    ap (λ o. option_map_or (λ (m : Module). m.face.name) (option_map module_of o) []) is
    ∙ ap (λ o. option_map_or (λ (m : Module). m.face.name) o [])
    (sym (slice-map module_of tree p))

pub name-none : (tree : List Facts) (p : ℕ) → None ≡ slice_get tree p
    → [] ≡ name_at (modules_of tree) p
name-none tree p is =
    ap (λ o. option_map_or (λ (m : Module). m.face.name) (option_map module_of o) []) is
    ∙ ap (λ o. option_map_or (λ (m : Module). m.face.name) o [])
    (sym (slice-map module_of tree p))

-- a cycle has a fault
pub fault-of-cycle : (tree : List Module) (r : Goes) (found : List ℕ) (names : List (List ℕ))
    → Closes r found → names ≡ map (name_at tree) found
    → cycle_fault tree found ≡ Some (Cycle names)
fault-of-cycle tree r [] names closes is = absurd closes
fault-of-cycle tree r (i ∷ is) names closes same = ap (λ ns. Some (Cycle ns)) (sym same)

-- who provides a name, by the table of all names
placed : (known : Bool) (is : List Item) (at : Option ℕ)
    → answer_at known (map item_answer is) at
    ≡ option_map_or item_answer (option_and_then (slice_get is) at)
    (cond known Nobody TheKernel)
placed known is None = refl
placed known is (Some k) =
    ap (λ o. unwrap_or o (cond known Nobody TheKernel)) (slice-map item_answer is k)
    ∙ go (slice_get is k)
  where
    go : (o : Option Item)
        → unwrap_or (option_map item_answer o) (cond known Nobody TheKernel)
        ≡ option_map_or item_answer o (cond known Nobody TheKernel)
    go None = refl
    go (Some i) = refl

pub provider-placed : (tree : List Module) (kernel : SeenKernel) (names : Table) (is : List Item)
    (owners : List Provider) (known : Bool) (x : List ℕ)
    → is ≡ items tree kernel → IsTableOf names (map item_name is)
    → owners ≡ map item_answer is → known ≡ kernel.known
    → answer_at known owners (place_of names x) ≡ provider_of tree kernel x
provider-placed tree kernel names is owners known x same table owners_are known_is =
    ap (λ o. answer_at known o (place_of names x)) owners_are
    ∙ placed known is (place_of names x)
    ∙ ap (λ o. option_map_or item_answer o (cond known Nobody TheKernel))
    (table-find item_name (is_named x) x (λ i. refl) names is table
    ∙ ap (find (is_named x)) same)
    ∙ ap (λ b. option_map_or item_answer (find (is_named x) (items tree kernel))
    (cond b Nobody TheKernel)) known_is
    ∙ sym (answer-is tree kernel x)

-- a fault of the first test, and of the others where there is no cycle
pub fault-cycle : (tree : List Facts) (kernel : SeenKernel) (fault : RelationFault)
    → cycle_fault (modules_of tree) (cycle (uses_at (modules_of tree) kernel) (below (length tree)))
    ≡ Some fault
    → relation_fault (modules_of tree) kernel ≡ Some fault
unfolding relation_fault
fault-cycle tree kernel fault is =
    let T = modules_of tree in
    ap (λ o. first (o ∷ deps_fault (sum_by length (dependencies T kernel))
    ∷ doubles_fault (length (doubles kernel T)) ∷ []))
    (ap (λ n. cycle_fault T (cycle (uses_at T kernel) (below n))) (length-map tree module_of) ∙ is)

pub fault-counts : (tree : List Facts) (kernel : SeenKernel) (all : List (List ℕ)) (is : List Item)
    (o : Option RelationFault)
    → cycle (uses_at (modules_of tree) kernel) (below (length tree)) ≡ []
    → all ≡ dependencies (modules_of tree) kernel → is ≡ items (modules_of tree) kernel
    → Apart kernel.exports → ModulesApart (modules_of tree)
    → first (deps_fault (sum_by length all) ∷ doubles_fault (length (item_doubles [] is)) ∷ []) ≡ o
    → relation_fault (modules_of tree) kernel ≡ o
unfolding relation_fault
fault-counts tree kernel all is o none all_is same kernel_apart apart counted =
    let T = modules_of tree in
    ap (λ ns. first (cycle_fault T ns ∷ deps_fault (sum_by length (dependencies T kernel))
    ∷ doubles_fault (length (doubles kernel T)) ∷ []))
    (ap (λ n. cycle (uses_at T kernel) (below n)) (length-map tree module_of) ∙ none)
    ∙ ap
    (λ a. first (deps_fault (sum_by length a) ∷ doubles_fault (length (doubles kernel T)) ∷ []))
    (sym all_is)
    ∙ ap (λ d. first (deps_fault (sum_by length all) ∷ doubles_fault (length d) ∷ []))
    (sym (double-law T kernel kernel_apart apart) ∙ ap (item_doubles []) (sym same))
    ∙ counted

-- the dependencies are lists of places of the tree
pub deps-long : (tree : List Module) (kernel : SeenKernel)
    → length (dependencies tree kernel) ≡ length tree
unfolding dependencies
deps-long tree kernel =
    length-map (below (length tree)) (closure (uses_at tree kernel) (below (length tree)))
    ∙ length-range_with_len 0 (length tree)

closure-small : (r : Goes) (n x : ℕ) → n ≤ 10000 → All (λ i. i < 2 ^ 32) (closure r (below n) x)
closure-small r n x few =
    All-weaker (λ i. i < n) (λ i. i < 2 ^ 32) (λ i low. omega arith) (closure r (below n) x)
    (all-within n (closure r (below n) x) (λ y there.
    let reaches = least-members r (reached r (below n) x) y there in
    let member : has (below n) y ≡ true
    = (kept (has (reached r (below n) x)) (below n) y
    (ap (λ l. has l y) (sym (reached-members r (below n) x)) ∙ reaches)).1 in
    omega (arith, (range-has 0 n y member).1)))

pub deps-small : (tree : List Module) (kernel : SeenKernel) → length tree ≤ 10000
    → All (λ xs. All (λ i. i < 2 ^ 32) xs) (dependencies tree kernel)
unfolding dependencies
deps-small tree kernel few =
    All-map (λ xs. All (λ i. i < 2 ^ 32) xs) (closure (uses_at tree kernel) (below (length tree)))
    (below (length tree))
    (λ k d within. closure-small (uses_at tree kernel) (length tree)
    (get_or (below (length tree)) k d) few)

-- the lines of modules.unmet
pub all-lines : (tree : List Facts) (kernel : SeenKernel) (names : Table) (is : List Item)
    (known : Bool) (l0 l1 l2 l3 l4 l5 : List Unbound)
    → is ≡ items (modules_of tree) kernel → IsTableOf names (map item_name is)
    → known ≡ kernel.known
    → Apart kernel.exports → ModulesApart (modules_of tree) → l0 ≡ []
    → l1 ≡ l0 ++ flat_map (lines_by Missing known is names) tree
    → l2 ≡ l1 ++ flat_map (lines_by Gpl known is names) tree
    → l3 ≡ l2 ++ flat_map (lines_by Version known is names) tree
    → l4 ≡ l3 ++ flat_map (lines_by Namespace known is names) tree
    → l5 ≡ l4 ++ item_doubles [] is → l5 ≡ unmet (modules_of tree) kernel
unfolding unmet
all-lines tree kernel names is known l0 l1 l2 l3 l4 l5 same table known_is kernel_apart apart e0 e1
    e2 e3 e4 e5
    =
    let T = modules_of tree in
    let table' = subst (λ l. IsTableOf names (map item_name l)) same table in
    let of
    = λ (kind : UnmetKind). ap (λ l. flat_map (lines_by kind known l names) tree) same
    ∙ ap (λ b. flat_map (lines_by kind b (items T kernel) names) tree) known_is
    ∙ lines-are tree kernel names table' kind in
    e5
    ∙ ap (λ l. l ++ item_doubles [] is)
    (e4
    ∙ ap (λ l. l ++ flat_map (lines_by Namespace known is names) tree)
    (e3
    ∙ ap (λ l. l ++ flat_map (lines_by Version known is names) tree)
    (e2
    ∙ ap (λ l. l ++ flat_map (lines_by Gpl known is names) tree)
    (e1
    ∙ ap (λ l. l ++ flat_map (lines_by Missing known is names) tree)
    e0))))
    ∙ ap (λ l. (((l ++ flat_map (lines_by Gpl known is names) tree)
    ++ flat_map (lines_by Version known is names) tree)
    ++ flat_map (lines_by Namespace known is names) tree)
    ++ item_doubles [] is) (of Missing)
    ∙ ap (λ l. (((lines (test_of Missing) (line_of Missing) T kernel ++ l)
    ++ flat_map (lines_by Version known is names) tree)
    ++ flat_map (lines_by Namespace known is names) tree)
    ++ item_doubles [] is) (of Gpl)
    ∙ ap (λ l. (((lines (test_of Missing) (line_of Missing) T kernel
    ++ lines (test_of Gpl) (line_of Gpl) T kernel)
    ++ l)
    ++ flat_map (lines_by Namespace known is names) tree)
    ++ item_doubles [] is) (of Version)
    ∙ ap (λ l. (((lines (test_of Missing) (line_of Missing) T kernel
    ++ lines (test_of Gpl) (line_of Gpl) T kernel)
    ++ lines (test_of Version) (line_of Version) T kernel)
    ++ l)
    ++ item_doubles [] is) (of Namespace)
    ∙ ap (λ l. (((lines (test_of Missing) (line_of Missing) T kernel
    ++ lines (test_of Gpl) (line_of Gpl) T kernel)
    ++ lines (test_of Version) (line_of Version) T kernel)
    ++ lines (test_of Namespace) (line_of Namespace) T kernel)
    ++ l)
    (ap (item_doubles []) same ∙ double-law T kernel kernel_apart apart)

pub right : {A X Y : Type 0} → (X → Y) → A ⊎ X → A ⊎ Y
right f (inl a) = inl a
right f (inr x) = inr (f x)
