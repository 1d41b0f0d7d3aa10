-- What modules use, and the lines on their needs, by what their needs are bound to.
use Rattle.std.proofs.Common.{◌≡◌, ℕ, zero, suc, ◌<◌, Bool, true, false, List, [], ◌∷◌, ◌++◌}
use Rattle.std.proofs.Common.{length, map, get_or, cond, Option, Some, None, option_map}
use Rattle.std.proofs.Common.{option_and_then, find, All, refl, sym, ap, subst, ◌∙◌, arith}
use Rattle.std.specs.Global.{Vec}
use Rattle.std.specs.List.{cons_option, filter, filter_map, flat_map, slice_get}
use Rattle.std.specs.Option.{option_map_or}
use Rattle.std.proofs.Math.Path.{fun_ext}
use Rattle.std.proofs.lemmas.List.{get_or-map, length-map, map-append}
use Rattle.std.proofs.lemmas.List.Elements.{All-nil, All-cons}
use Rattle.name_table.specs.NameTable.{Table, IsTableOf, place_of}
use Rattle.module_symbols.specs.declared.needs.Need.{Need as StatedNeed}
use Rattle.module_facts.specs.declared.facts.Facts.{Facts}
use Rattle.relation_order.specs.Sets.{has, goes}
use Rattle.relation_order.specs.Search.{Inside}
use Rattle.symbol_binding.specs.Symbols.{Export, Need, Module, Kernel as SeenKernel}
use Rattle.symbol_binding.specs.Provider.{ByModule, Provided, provider, uses, owning_module}
use Rattle.symbol_binding.specs.Provider.{export_under}
use Rattle.symbol_binding.specs.Unmet.{lines, lines_of, provider_path}
use Rattle.provider_rel.specs.declared.unmet.UnmetKind.{UnmetKind}
use Rattle.provider_rel.specs.Faces.{face_of, need_of_facts, module_of, modules_of}
use Rattle.provider_rel.specs.Tree.{IsTree}
use Rattle.provider_rel.specs.Relation.{place, uses_at}
use Rattle.provider_rel.specs.Items.{Item, item_of, by_kernel, by_module, all_provided, items}
use Rattle.provider_rel.specs.Items.{item_name, is_named, item_under, owner_under, used_places}
use Rattle.provider_rel.specs.Items.{bound_of, seen_under, path_under}
use Rattle.provider_rel.specs.Kinds.{test_of, line_of, line_if, lines_by}
use Rattle.kernel_exports.proofs.NameSteps.{table-find}
use Rattle.provider_rel.proofs.ItemSteps.{place-at}
use Rattle.provider_rel.proofs.ProviderLaw.{seen-is, path-is, owner-is}

cons-map : {X Y : Type 0} (f : X → Y) (o : Option X) (xs : List X)
    → cons_option (option_map f o) (map f xs) ≡ map f (cons_option o xs)
cons-map f None xs = refl
cons-map f (Some x) xs = refl

map-map : {X Y Z : Type 0} (g : Y → Z) (f : X → Y) (xs : List X)
    → map g (map f xs) ≡ map (λ x. g (f x)) xs
map-map g f [] = refl
map-map g f (x ∷ xs) = ap (λ l. g (f x) ∷ l) (map-map g f xs)

map-same : {X Y : Type 0} (f g : X → Y) → ((x : X) → f x ≡ g x) → (xs : List X)
    → map f xs ≡ map g xs
map-same f g same [] = refl
map-same f g same (x ∷ xs) =
    ap (λ y. y ∷ map f xs) (same x) ∙ ap (λ l. g x ∷ l) (map-same f g same xs)

flat-same : {X Y Z : Type 0} (f : X → List Z) (g : Y → List Z) (q : X → Y)
    → ((x : X) → f x ≡ g (q x)) → (xs : List X) → flat_map f xs ≡ flat_map g (map q xs)
flat-same f g q same [] = refl
flat-same f g q same (x ∷ xs) =
    ap (λ l. l ++ flat_map f xs) (same x) ∙ ap (λ l. g (q x) ++ l) (flat-same f g q same xs)

-- a line for each that passes
flat-filter : {X Y Z : Type 0} (f : X → List Z) (q : X → Y) (g : Y → Bool) (h : Y → Z)
    → ((x : X) → f x ≡ cond (g (q x)) (h (q x) ∷ []) []) → (xs : List X)
    → flat_map f xs ≡ map h (filter g (map q xs))
flat-filter f q g h same [] = refl
flat-filter f q g h same (x ∷ xs) =
    ap (λ l. l ++ flat_map f xs) (same x)
    ∙ ap (λ l. cond (g (q x)) (h (q x) ∷ []) [] ++ l) (flat-filter f q g h same xs)
    ∙ one (g (q x))
  where
    one : (b : Bool)
        → cond b (h (q x) ∷ []) [] ++ map h (filter g (map q xs))
        ≡ map h (cond b (q x ∷ filter g (map q xs)) (filter g (map q xs)))
    one true = refl
    one false = refl

module _ (tree : List Facts) (kernel : SeenKernel) (names : Table)
    (table : IsTableOf names (map item_name (items (modules_of tree) kernel))) where
  T : List Module
  T = modules_of tree

  under : (x : List ℕ)
      → item_under (items (modules_of tree) kernel) (place_of names x)
      ≡ find (is_named x) (items (modules_of tree) kernel)
  under x
      = table-find item_name (is_named x) x (λ i. refl) names (items (modules_of tree) kernel) table

  used-needs : (ns : List StatedNeed)
      → used_places (items (modules_of tree) kernel) (bound_of names ns)
      ≡ map (place (modules_of tree))
      (filter_map (λ (n : Need). option_and_then
      (λ (p : Provided Module). owning_module p.owner)
      (provider (modules_of tree) kernel n.name)) (map need_of_facts ns))
  used-needs [] = refl
  used-needs (n ∷ ns) =
      ap (λ o. cons_option o (used_places (items (modules_of tree) kernel) (bound_of names ns)))
      (ap (option_and_then (λ (i : Item). i.place)) (under n.name)
      ∙ sym (owner-is (modules_of tree) kernel n.name))
      ∙ ap (cons_option
      (option_map (place (modules_of tree))
      (option_and_then (λ (p : Provided Module). owning_module p.owner)
      (provider (modules_of tree) kernel n.name)))) (used-needs ns)
      ∙ cons-map (place (modules_of tree))
      (option_and_then (λ (p : Provided Module). owning_module p.owner)
      (provider (modules_of tree) kernel n.name))
      (filter_map (λ (m : Need). option_and_then (λ (p : Provided Module). owning_module p.owner)
      (provider (modules_of tree) kernel m.name)) (map need_of_facts ns))

  -- the places of those that a module uses
  pub row : Facts → List ℕ
  row f = map (place (modules_of tree)) (uses (modules_of tree) kernel (module_of f))

  pub rows-are : (lists : List (Vec ℕ)) (bound : List (Vec (Option ℕ)))
      → map (λ (v : Vec (Option ℕ)). v.items) bound
      ≡ map (λ (f : Facts). bound_of names f.needs) tree
      → map (λ (u : Vec ℕ). u.items) lists
      ≡ map (λ (b : Vec (Option ℕ)). used_places (items (modules_of tree) kernel) b.items)
      bound
      → map (λ (u : Vec ℕ). u.items) lists ≡ map row tree
  unfolding row
  rows-are lists bound bound_is lists_are =
      lists_are
      ∙ sym (map-map (used_places (items (modules_of tree) kernel))
      (λ (v : Vec (Option ℕ)). v.items) bound)
      ∙ ap (map (used_places (items (modules_of tree) kernel))) bound_is
      ∙ map-map (used_places (items (modules_of tree) kernel))
      (λ (f : Facts). bound_of names f.needs) tree
      ∙ map-same
      (λ (f : Facts). used_places (items (modules_of tree) kernel) (bound_of names f.needs)) row
      (λ f. used-needs f.needs) tree

  goes-go : (ts : List Facts) (x y : ℕ)
      → has (get_or (map row ts) x []) y
      ≡ option_map_or
      (λ (m : Module). has (map (place (modules_of tree)) (uses (modules_of tree) kernel m))
      y) (slice_get (map module_of ts) x) false
  unfolding row
  goes-go [] x y = refl
  goes-go (t ∷ ts) zero y = refl
  goes-go (t ∷ ts) (suc x) y = goes-go ts x y

  -- the lists have just what modules use
  pub goes-is : (lists : List (Vec ℕ)) → map (λ (u : Vec ℕ). u.items) lists ≡ map row tree
      → goes lists ≡ uses_at (modules_of tree) kernel
  goes-is lists are
      = fun_ext (λ x. fun_ext (λ y. ap (λ l. has (get_or l x []) y) are ∙ goes-go tree x y))

  -- the line of a need
  line-is : (kind : UnmetKind) (f : Facts) (n : StatedNeed)
      → line_if kind kernel.known f n
      (item_under (items (modules_of tree) kernel) (place_of names n.name))
      ≡ cond (test_of kind (export_under (provider (modules_of tree) kernel n.name)) (face_of f)
      (need_of_facts n))
      (line_of kind f.path n.name (provider_path (provider (modules_of tree) kernel n.name))
      ∷ []) []
  unfolding line_if
  line-is kind f n =
      ap (λ o. cond (test_of kind (seen_under kernel.known n.name o) (face_of f) (need_of_facts n))
      (line_of kind f.path n.name (path_under kernel.known o) ∷ []) []) (under n.name)
      ∙ ap (λ o. cond (test_of kind o (face_of f) (need_of_facts n))
      (line_of kind f.path n.name
      (path_under kernel.known
      (find (is_named n.name) (items (modules_of tree) kernel)))
      ∷ []) []) (sym (seen-is (modules_of tree) kernel n.name))
      ∙ ap (λ by. cond
      (test_of kind (export_under (provider (modules_of tree) kernel n.name)) (face_of f)
      (need_of_facts n)) (line_of kind f.path n.name by ∷ []) [])
      (sym (path-is (modules_of tree) kernel n.name))

  -- the lines of a kind
  pub lines-are : (kind : UnmetKind)
      → flat_map (lines_by kind kernel.known (items (modules_of tree) kernel) names) tree
      ≡ lines (test_of kind) (line_of kind) (modules_of tree) kernel
  lines-are kind =
      flat-same (lines_by kind kernel.known (items (modules_of tree) kernel) names)
      (lines_of (test_of kind) (line_of kind) (modules_of tree) kernel) module_of
      (λ f. flat-filter
      (λ (n : StatedNeed). line_if kind kernel.known f n
      (item_under (items (modules_of tree) kernel) (place_of names n.name))) need_of_facts
      (λ (n : Need). test_of kind (export_under (provider (modules_of tree) kernel n.name))
      (face_of f) n)
      (λ (n : Need). line_of kind f.path n.name
      (provider_path (provider (modules_of tree) kernel n.name)))
      (line-is kind f) f.needs) tree

-- a place is one of the tree
IsPlaceIn : ℕ → Option ℕ → Type 0
IsPlaceIn n None = Unit {0}
IsPlaceIn n (Some j) = j < n

module _ (tree : List Facts) (is_tree : IsTree tree) where
  inside : All (λ (m : Module). place (modules_of tree) m < length tree) (modules_of tree)
  inside i d within =
      let here : i < length tree = omega (arith, length-map tree module_of) in
      go i d here tree refl
    where
      go : (i : ℕ) (d : Module) → i < length tree → (ts : List Facts) → ts ≡ tree
          → place (modules_of tree) (get_or (modules_of tree) i d) < length tree
      go i d here [] is = absurd (omega (arith, ap length is))
      go i d here (t ∷ ts) is =
          let f = get_or tree i t in
          let same : get_or (modules_of tree) i d ≡ module_of f
          = get_or-map module_of tree i t d here in
          omega (
            arith,
            ap (place (modules_of tree)) same,
            place-at tree is_tree.distinct i f here (default tree i t here),
          )
        where
          default : (xs : List Facts) (k : ℕ) (e : Facts) → k < length xs
              → get_or xs k e ≡ get_or xs k (get_or xs k e)
          default [] k e l = absurd (omega arith)
          default (x ∷ xs) zero e l = refl
          default (x ∷ xs) (suc k) e l = default xs k e (omega arith)

-- the places of all of some items are below a number
AllIn : ℕ → List Item → Type 0
AllIn n [] = Unit {0}
AllIn n (i ∷ is) = IsPlaceIn n i.place × AllIn n is

in-append : (n : ℕ) (xs ys : List Item) → AllIn n xs → AllIn n ys → AllIn n (xs ++ ys)
unfolding AllIn
in-append n [] ys a b = b
in-append n (x ∷ xs) ys a b = (a.0, in-append n xs ys a.1 b)

in-kernel : (T : List Module) (n : ℕ) (es : List Export)
    → AllIn n (map (item_of T) (map by_kernel es))
unfolding AllIn IsPlaceIn
in-kernel T n [] = tt
in-kernel T n (e ∷ es) = (tt, in-kernel T n es)

in-module : (T : List Module) (n : ℕ) (m : Module) → place T m < n → (es : List Export)
    → AllIn n (map (item_of T) (map (λ (e : Export). record { owner = ByModule m; export = e }) es))
unfolding AllIn IsPlaceIn
in-module T n m low [] = tt
in-module T n m low (e ∷ es) = (low, in-module T n m low es)

in-modules : (T : List Module) (n : ℕ) (ms : List Module)
    → ((i : ℕ) (d : Module) → i < length ms → place T (get_or ms i d) < n)
    → AllIn n (map (item_of T) (flat_map by_module ms))
unfolding AllIn
in-modules T n [] low = tt
in-modules T n (m ∷ ms) low =
    subst (AllIn n) (sym (map-append (item_of T) (by_module m) (flat_map by_module ms)))
    (in-append n (map (item_of T) (by_module m)) (map (item_of T) (flat_map by_module ms))
    (in-module T n m (low 0 m (omega arith)) m.face.exports)
    (in-modules T n ms (λ i d within. low (suc i) d (omega arith))))

in-items : (tree : List Facts) → IsTree tree → (kernel : SeenKernel)
    → AllIn (length tree) (items (modules_of tree) kernel)
unfolding items all_provided
in-items tree is_tree kernel =
    let T = modules_of tree in
    subst (AllIn (length tree))
    (sym (map-append (item_of T) (map by_kernel kernel.exports) (flat_map by_module T)))
    (in-append (length tree) (map (item_of T) (map by_kernel kernel.exports))
    (map (item_of T) (flat_map by_module T))
    (in-kernel T (length tree) kernel.exports)
    (in-modules T (length tree) T (inside tree is_tree)))

in-slice : (n : ℕ) (is : List Item) → AllIn n is → (k : ℕ)
    → IsPlaceIn n (option_and_then (λ (i : Item). i.place) (slice_get is k))
unfolding AllIn IsPlaceIn
in-slice n [] all k = tt
in-slice n (i ∷ is) all zero = all.0
in-slice n (i ∷ is) all (suc k) = in-slice n is all.1 k

in-under : (n : ℕ) (is : List Item) → AllIn n is → (at : Option ℕ) → IsPlaceIn n (owner_under is at)
unfolding IsPlaceIn
in-under n is all None = tt
in-under n is all (Some k) = in-slice n is all k

in-used : (n : ℕ) (is : List Item) → AllIn n is → (bound : List (Option ℕ))
    → All (λ j. j < n) (used_places is bound)
unfolding IsPlaceIn
in-used n is all [] = All-nil (λ j. j < n)
in-used n is all (at ∷ bound) =
    go (owner_under is at) (in-under n is all at) (in-used n is all bound)
  where
    go : (o : Option ℕ) → IsPlaceIn n o → All (λ j. j < n) (used_places is bound)
        → All (λ j. j < n) (cons_option o (used_places is bound))
    go None low later = later
    go (Some j) low later = All-cons (λ j. j < n) j (used_places is bound) low later

EachIn : ℕ → List (List ℕ) → Type 0
EachIn n [] = Unit {0}
EachIn n (xs ∷ xss) = All (λ j. j < n) xs × EachIn n xss

each-used : (n : ℕ) (is : List Item) → AllIn n is → (bound : List (Vec (Option ℕ)))
    → EachIn n (map (λ (b : Vec (Option ℕ)). used_places is b.items) bound)
unfolding EachIn
each-used n is all [] = tt
each-used n is all (b ∷ bound) = (in-used n is all b.items, each-used n is all bound)

each-inside : (n : ℕ) (lists : List (Vec ℕ)) → EachIn n (map (λ (u : Vec ℕ). u.items) lists)
    → Inside n lists
unfolding EachIn
each-inside n [] each = All-nil (λ (v : Vec ℕ). All (λ y. y < n) v.items)
each-inside n (v ∷ vs) each =
    All-cons (λ (v : Vec ℕ). All (λ y. y < n) v.items) v vs each.0 (each-inside n vs each.1)

-- the lists that the code makes are those of the relation
pub record AreLists (tree : List Facts) (kernel : SeenKernel) (lists : List (Vec ℕ)) : Type 0 where
  pub goes_is : goes lists ≡ uses_at (modules_of tree) kernel
  pub long : length lists ≡ length tree
  pub inside : Inside (length lists) lists

pub lists-are : (tree : List Facts) (kernel : SeenKernel) (names : Table) (is : List Item)
    (bound : List (Vec (Option ℕ))) (lists : List (Vec ℕ))
    → IsTree tree → is ≡ items (modules_of tree) kernel
    → IsTableOf names (map item_name is)
    → map (λ (v : Vec (Option ℕ)). v.items) bound
    ≡ map (λ (f : Facts). bound_of names f.needs) tree
    → map (λ (u : Vec ℕ). u.items) lists
    ≡ map (λ (b : Vec (Option ℕ)). used_places is b.items) bound
    → AreLists tree kernel lists
lists-are tree kernel names is bound lists is_tree same table bound_is lists_are =
    let T = modules_of tree in
    let table' = subst (λ l. IsTableOf names (map item_name l)) same table in
    let now : map (λ (u : Vec ℕ). u.items) lists
    ≡ map (λ (b : Vec (Option ℕ)). used_places (items T kernel) b.items) bound
    =
    lists_are ∙ ap (λ l. map (λ (b : Vec (Option ℕ)). used_places l b.items) bound) same in
    let rows = rows-are tree kernel names table' lists bound bound_is now in
    let long : length lists ≡ length tree
    = sym (length-map lists (λ (u : Vec ℕ). u.items)) ∙ ap length rows
    ∙ length-map tree (row tree kernel names table') in
    record {
      goes_is = goes-is tree kernel names table' lists rows;
      long = long;
      inside
          = each-inside (length lists) lists (subst
          (λ n. EachIn n (map (λ (u : Vec ℕ). u.items) lists)) (sym long)
          (subst (EachIn (length tree)) (sym now)
          (each-used (length tree) (items T kernel) (in-items tree is_tree kernel) bound)));
    }
