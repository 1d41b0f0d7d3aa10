-- The double lines of a tree, as the double lines of its items.
use Rattle.std.proofs.Common.{◌≡◌, ℕ, suc, Bool, true, false, ◌||◌, List, [], ◌∷◌, ◌++◌, map, cond}
use Rattle.std.proofs.Common.{Option, Some, None, is_some, option_map, find, AllPairs, All, refl}
use Rattle.std.proofs.Common.{sym, ap, ◌∙◌, append_assoc, append-nil, arith}
use Rattle.std.proofs.lemmas.Bool.{false≢true, false_from_ne_true}
use Rattle.std.proofs.lemmas.Grind.{flat_map-append}
use Rattle.std.proofs.lemmas.List.{map-append}
use Rattle.std.proofs.lemmas.List.Elements.{filter-append, All-head, All-tail}
use Rattle.std.proofs.lemmas.List.Folds.{Any-from_list_any}
use Rattle.std.specs.List.{filter, flat_map, list_any}
use Rattle.std.specs.Str.{bytes_eq}
use Rattle.symbol_binding.specs.Symbols.{Export, Module, Kernel}
use Rattle.symbol_binding.specs.Provider.{ByKernel, ByModule, Provided, of_kernel, of_one}
use Rattle.symbol_binding.specs.Provider.{module_exports}
use Rattle.symbol_binding.specs.Unmet.{vmlinux, exporters, doubles_of, doubles}
use Rattle.symbol_binding.proofs.Doubles.{doubles_after, doubles-are}
use Rattle.symbol_binding.specs.declared.unbound.Unbound.{Unbound}
use Rattle.symbol_binding.specs.declared.unbound.Unbound.TheVariants.{Double}
use Rattle.module_facts.specs.declared.facts.Facts.{Facts}
use Rattle.provider_rel.specs.Faces.{export_of_facts, modules_of}
use Rattle.provider_rel.specs.Tree.{IsTreeModule}
use Rattle.provider_rel.specs.Relation.{place}
use Rattle.provider_rel.specs.Items.{Item, item_of, by_kernel, by_module, all_provided, items}
use Rattle.provider_rel.specs.Items.{is_named, doubles_with, item_doubles}
use Rattle.kernel_exports.proofs.NameSteps.{bytes-same, bytes-turn}

-- an export of this name is among these
has_name : List Export → List ℕ → Bool
has_name es x = list_any (λ (e : Export). bytes_eq e.name x) es

-- each name stands once
pub Apart : List Export → Type 0
Apart [] = Unit {0}
Apart (e ∷ es) = (has_name es e.name ≡ false) × Apart es

-- the items of exports with one owner
with_owner : Option ℕ → List ℕ → List Export → List Item
with_owner at path es = map (λ (e : Export). record { place = at; path = path; export = e }) es

either : (a b : Bool) → (a || b) ≡ false → (a ≡ false) × (b ≡ false)
either true b is = absurd (false≢true (sym is))
either false b is = (refl, is)

none-named : (at : Option ℕ) (path x : List ℕ) (es : List Export) → has_name es x ≡ false
    → filter (is_named x) (with_owner at path es) ≡ []
unfolding with_owner has_name
none-named at path x [] none = refl
none-named at path x (e ∷ es) none =
    let w = either (bytes_eq e.name x) (has_name es x) none in
    ap (λ b. cond b (record { place = at; path = path; export = e }
    ∷ filter (is_named x) (with_owner at path es))
    (filter (is_named x) (with_owner at path es))) w.0
    ∙ none-named at path x es w.1

-- the lines with the exports of one owner
lines_with : List ℕ → List ℕ → List Item → List Unbound
lines_with x second before = map (λ (b : Item). Double x b.path second) (filter (is_named x) before)

lines-append : (x second : List ℕ) (xs ys : List Item)
    → lines_with x second (xs ++ ys) ≡ lines_with x second xs ++ lines_with x second ys
unfolding lines_with
lines-append x second xs ys =
    ap (map (λ (b : Item). Double x b.path second)) (filter-append (is_named x) xs ys)
    ∙ map-append (λ (b : Item). Double x b.path second) (filter (is_named x) xs)
    (filter (is_named x) ys)

one-owner : (at : Option ℕ) (path x second : List ℕ) (es : List Export) → Apart es
    → lines_with x second (with_owner at path es)
    ≡ map (λ p. Double x p second)
    (cond (is_some (find (λ (e : Export). bytes_eq e.name x) es)) (path ∷ []) [])
unfolding with_owner lines_with Apart has_name
one-owner at path x second [] apart = refl
one-owner at path x second (e ∷ es) apart =
    go (bytes_eq e.name x) refl (one-owner at path x second es apart.1)
  where
    later : List Item
    later = with_owner at path es

    go : (b : Bool) → bytes_eq e.name x ≡ b
        → lines_with x second (with_owner at path es)
        ≡ map (λ p. Double x p second)
        (cond (is_some (find (λ (o : Export). bytes_eq o.name x) es)) (path ∷ []) [])
        → map (λ (b : Item). Double x b.path second)
        (cond (bytes_eq e.name x)
        (record { place = at; path = path; export = e }
        ∷ filter (is_named x) (with_owner at path es))
        (filter (is_named x) (with_owner at path es)))
        ≡ map (λ p. Double x p second)
        (cond (is_some
        (cond (bytes_eq e.name x) (Some e) (find (λ (o : Export). bytes_eq o.name x) es)))
        (path ∷ []) [])
    go true is ih =
        let none : has_name es x ≡ false
        = ap (has_name es) (sym (bytes-same e.name x is)) ∙ apart.0 in
        ap (λ b. map (λ (b : Item). Double x b.path second)
        (cond b (record { place = at; path = path; export = e }
        ∷ filter (is_named x) (with_owner at path es))
        (filter (is_named x) (with_owner at path es)))) is
        ∙ ap (λ l. Double x path second ∷ map (λ (b : Item). Double x b.path second) l)
        (none-named at path x es none)
        ∙ ap (λ b. map (λ p. Double x p second)
        (cond (is_some (cond b (Some e) (find (λ (o : Export). bytes_eq o.name x) es)))
        (path ∷ []) [])) (sym is)
    go false is ih =
        ap (λ b. map (λ (b : Item). Double x b.path second)
        (cond b (record { place = at; path = path; export = e }
        ∷ filter (is_named x) (with_owner at path es))
        (filter (is_named x) (with_owner at path es)))) is
        ∙ ih
        ∙ ap (λ b. map (λ p. Double x p second)
        (cond (is_some (cond b (Some e) (find (λ (o : Export). bytes_eq o.name x) es)))
        (path ∷ []) [])) (sym is)

item-map : (tree : List Module) (m : Module) (es : List Export)
    → map (item_of tree) (map (λ (e : Export). record { owner = ByModule m; export = e }) es)
    ≡ with_owner (Some (place tree m)) m.path es
unfolding with_owner
item-map tree m [] = refl
item-map tree m (e ∷ es) =
    ap (λ l. record { place = Some (place tree m); path = m.path; export = e } ∷ l)
    (item-map tree m es)

kernel-map : (tree : List Module) (es : List Export)
    → map (item_of tree) (map by_kernel es) ≡ with_owner None vmlinux es
unfolding with_owner
kernel-map tree [] = refl
kernel-map tree (e ∷ es) =
    ap (λ l. record { place = None; path = vmlinux; export = e } ∷ l) (kernel-map tree es)

is_some-given : (x : List ℕ) (m : Module)
    → is_some (of_one module_exports x m)
    ≡ is_some (find (λ (e : Export). bytes_eq e.name x) m.face.exports)
is_some-given x m = go (find (λ (e : Export). bytes_eq e.name x) m.face.exports)
  where
    go : (o : Option Export)
        → is_some {T = Provided Module}
        (option_map (λ (e : Export). record { owner = ByModule m; export = e }) o)
        ≡ is_some o
    go None = refl
    go (Some e) = refl

pub ModulesApart : List Module → Type 0
ModulesApart [] = Unit {0}
ModulesApart (m ∷ ms) = Apart m.face.exports × ModulesApart ms

-- the lines with earlier modules
earlier-lines : (tree : List Module) (x second : List ℕ) (ms : List Module) → ModulesApart ms
    → lines_with x second (map (item_of tree) (flat_map by_module ms))
    ≡ map (λ p. Double x p second)
    (map (λ (p : Module). p.path)
    (filter (λ (p : Module). is_some (of_one module_exports x p)) ms))
unfolding ModulesApart lines_with
earlier-lines tree x second [] apart = refl
earlier-lines tree x second (m ∷ ms) apart =
    ap (lines_with x second) (map-append (item_of tree) (by_module m) (flat_map by_module ms))
    ∙ lines-append x second (map (item_of tree) (by_module m))
    (map (item_of tree) (flat_map by_module ms))
    ∙ ap (λ l. lines_with x second l
    ++ lines_with x second (map (item_of tree) (flat_map by_module ms)))
    (item-map tree m m.face.exports)
    ∙ ap (λ l. l ++ lines_with x second (map (item_of tree) (flat_map by_module ms)))
    (one-owner (Some (place tree m)) m.path x second m.face.exports apart.0)
    ∙ ap (λ l. map (λ p. Double x p second)
    (cond (is_some (find (λ (e : Export). bytes_eq e.name x) m.face.exports)) (m.path ∷ [])
    [])
    ++ l) (earlier-lines tree x second ms apart.1)
    ∙ ap (λ b. map (λ p. Double x p second) (cond b (m.path ∷ []) [])
    ++ map (λ p. Double x p second)
    (map (λ (p : Module). p.path)
    (filter (λ (p : Module). is_some (of_one module_exports x p)) ms)))
    (sym (is_some-given x m))
    ∙ one (is_some (of_one module_exports x m))
  where
    one : (b : Bool)
        → map (λ p. Double x p second) (cond b (m.path ∷ []) [])
        ++ map (λ p. Double x p second)
        (map (λ (p : Module). p.path)
        (filter (λ (p : Module). is_some (of_one module_exports x p)) ms))
        ≡ map (λ p. Double x p second)
        (map (λ (p : Module). p.path)
        (cond b (m ∷ filter (λ (p : Module). is_some (of_one module_exports x p)) ms)
        (filter (λ (p : Module). is_some (of_one module_exports x p)) ms)))
    one true = refl
    one false = refl

module _ (tree : List Module) (kernel : Kernel) (kernel_apart : Apart kernel.exports) where
  -- the items of the kernel and of earlier modules
  before : List Module → List Item
  before earlier
      = map (item_of tree) (map by_kernel kernel.exports)
      ++ map (item_of tree) (flat_map by_module earlier)

  is_some-kernel : (x : List ℕ)
      → is_some (of_kernel {M = Module} kernel x)
      ≡ is_some (find (λ (e : Export). bytes_eq e.name x) kernel.exports)
  is_some-kernel x = go (find (λ (e : Export). bytes_eq e.name x) kernel.exports)
    where
      go : (o : Option Export)
          → is_some {T = Provided Module}
          (option_map (λ (e : Export). record { owner = ByKernel; export = e }) o)
          ≡ is_some o
      go None = refl
      go (Some e) = refl

  before-lines : (x second : List ℕ) (earlier : List Module) → ModulesApart earlier
      → lines_with x second (before earlier)
      ≡ map (λ p. Double x p second) (exporters kernel earlier x)
  unfolding before
  before-lines x second earlier apart =
      lines-append x second (map (item_of tree) (map by_kernel kernel.exports))
      (map (item_of tree) (flat_map by_module earlier))
      ∙ ap (λ l. lines_with x second l
      ++ lines_with x second (map (item_of tree) (flat_map by_module earlier)))
      (kernel-map tree kernel.exports)
      ∙ ap (λ l. l ++ lines_with x second (map (item_of tree) (flat_map by_module earlier)))
      (one-owner None vmlinux x second kernel.exports kernel_apart
      ∙ ap (λ b. map (λ p. Double x p second) (cond b (vmlinux ∷ []) []))
      (sym (is_some-kernel x)))
      ∙ ap (λ l. map (λ p. Double x p second)
      (cond (is_some (of_kernel {M = Module} kernel x)) (vmlinux ∷ []) [])
      ++ l) (earlier-lines tree x second earlier apart)
      ∙ sym (map-append (λ p. Double x p second)
      (cond (is_some (of_kernel {M = Module} kernel x)) (vmlinux ∷ []) [])
      (map (λ (p : Module). p.path)
      (filter (λ (p : Module). is_some (of_one module_exports x p)) earlier)))

-- the double lines of one list after another
doubles-append : (b xs ys : List Item)
    → item_doubles b (xs ++ ys) ≡ item_doubles b xs ++ item_doubles (b ++ xs) ys
doubles-append b [] ys = ap (λ l. item_doubles l ys) (sym (append-nil b))
doubles-append b (x ∷ xs) ys =
    ap (λ l. doubles_with b x ++ l)
    (doubles-append (b ++ x ∷ []) xs ys
    ∙ ap (λ l. item_doubles (b ++ x ∷ []) xs ++ item_doubles l ys)
    (append_assoc b (x ∷ []) xs))
    ∙ sym (append_assoc (doubles_with b x) (item_doubles (b ++ x ∷ []) xs)
    (item_doubles (b ++ x ∷ xs) ys))

-- none of some exports has the name of one of others
NoneIn : List Export → List Export → Type 0
NoneIn ds [] = Unit {0}
NoneIn ds (e ∷ es) = (has_name ds e.name ≡ false) × NoneIn ds es

none-in-none : (es : List Export) → NoneIn [] es
unfolding NoneIn has_name
none-in-none [] = tt
none-in-none (e ∷ es) = (refl, none-in-none es)

or-false : (b : Bool) → (b || false) ≡ b
or-false true = refl
or-false false = refl

has-push : (ds : List Export) (e : Export) (x : List ℕ) → has_name ds x ≡ false
    → bytes_eq e.name x ≡ false → has_name (ds ++ e ∷ []) x ≡ false
unfolding has_name
has-push [] e x none other = or-false (bytes_eq e.name x) ∙ other
has-push (d ∷ ds) e x none other =
    let w = either (bytes_eq d.name x) (has_name ds x) none in
    ap (λ b. b || has_name (ds ++ e ∷ []) x) w.0 ∙ has-push ds e x w.1 other

none-in-more : (ds : List Export) (e : Export) (es : List Export) → NoneIn ds es
    → has_name es e.name ≡ false → NoneIn (ds ++ e ∷ []) es
unfolding NoneIn has_name
none-in-more ds e [] none other = tt
none-in-more ds e (o ∷ es) none other =
    let w = either (bytes_eq o.name e.name) (has_name es e.name) other in
    (has-push ds e o.name none.0 (bytes-turn e.name o.name ∙ w.0), none-in-more ds e es none.1 w.1)

-- the double lines of the exports of one owner: those with what stands before all of them
own : (at : Option ℕ) (path : List ℕ) (b : List Item) (l : Export → List Unbound)
    → ((e : Export) → lines_with e.name path b ≡ l e)
    → (ds es : List Export) → NoneIn ds es → Apart es
    → item_doubles (b ++ with_owner at path ds) (with_owner at path es) ≡ flat_map l es
unfolding with_owner lines_with Apart NoneIn
own at path b l same ds [] none apart = refl
own at path b l same ds (e ∷ es) none apart =
    let i : Item = record { place = at; path = path; export = e } in
    ap (λ m. m ++ item_doubles ((b ++ with_owner at path ds) ++ i ∷ []) (with_owner at path es))
    (lines-append e.name path b (with_owner at path ds)
    ∙ ap (λ m. lines_with e.name path b ++ map (λ (o : Item). Double e.name o.path path) m)
    (none-named at path e.name ds none.0)
    ∙ append-nil (lines_with e.name path b)
    ∙ same e)
    ∙ ap (λ m. l e ++ m)
    (ap (λ m. item_doubles m (with_owner at path es))
    (append_assoc b (with_owner at path ds) (i ∷ [])
    ∙ ap (λ m. b ++ m)
    (sym (map-append (λ (o : Export). record { place = at; path = path; export = o }) ds
    (e ∷ []))))
    ∙ own at path b l same (ds ++ e ∷ []) es (none-in-more ds e es none.1 apart.0) apart.1)

none-of : Export → List Unbound
none-of e = []

nothing : (es : List Export) → flat_map none-of es ≡ []
unfolding none-of
nothing [] = refl
nothing (e ∷ es) = nothing es

module _ (tree : List Module) (kernel : Kernel) (kernel_apart : Apart kernel.exports) where
  kernel-none : item_doubles [] (map (item_of tree) (map by_kernel kernel.exports)) ≡ []
  unfolding with_owner lines_with none-of
  kernel-none =
      ap (item_doubles []) (kernel-map tree kernel.exports)
      ∙ own None vmlinux [] none-of (λ e. refl) [] kernel.exports (none-in-none kernel.exports)
      kernel_apart
      ∙ nothing kernel.exports

  of-module : (earlier : List Module) → ModulesApart earlier → (m : Module) → Apart m.face.exports
      → item_doubles (before tree kernel kernel_apart earlier) (map (item_of tree) (by_module m))
      ≡ doubles_of kernel earlier m
  unfolding with_owner
  of-module earlier earlier_apart m apart =
      ap (item_doubles (before tree kernel kernel_apart earlier)) (item-map tree m m.face.exports)
      ∙ ap (λ b. item_doubles b (with_owner (Some (place tree m)) m.path m.face.exports))
      (sym (append-nil (before tree kernel kernel_apart earlier)))
      ∙ own (Some (place tree m)) m.path (before tree kernel kernel_apart earlier)
      (λ e. map (λ p. Double e.name p m.path) (exporters kernel earlier e.name))
      (λ e. before-lines tree kernel kernel_apart e.name m.path earlier earlier_apart) []
      m.face.exports (none-in-none m.face.exports) apart

  before-more : (earlier : List Module) (m : Module)
      → before tree kernel kernel_apart earlier ++ map (item_of tree) (by_module m)
      ≡ before tree kernel kernel_apart (earlier ++ m ∷ [])
  unfolding before
  before-more earlier m =
      append_assoc (map (item_of tree) (map by_kernel kernel.exports))
      (map (item_of tree) (flat_map by_module earlier)) (map (item_of tree) (by_module m))
      ∙ ap (λ l. map (item_of tree) (map by_kernel kernel.exports) ++ l)
      (sym (map-append (item_of tree) (flat_map by_module earlier) (by_module m))
      ∙ ap (map (item_of tree))
      (ap (λ l. flat_map by_module earlier ++ l) (sym (append-nil (by_module m)))
      ∙ sym (flat_map-append by_module earlier (m ∷ []))))

  apart-more : (earlier : List Module) (m : Module) → ModulesApart earlier → Apart m.face.exports
      → ModulesApart (earlier ++ m ∷ [])
  unfolding ModulesApart
  apart-more [] m all one = (one, tt)
  apart-more (x ∷ xs) m all one = (all.0, apart-more xs m all.1 one)

  after : (earlier ms : List Module) → ModulesApart earlier → ModulesApart ms
      → item_doubles (before tree kernel kernel_apart earlier)
      (map (item_of tree) (flat_map by_module ms))
      ≡ doubles_after kernel earlier ms
  unfolding ModulesApart
  after earlier [] earlier_apart apart = refl
  after earlier (m ∷ ms) earlier_apart apart =
      ap (item_doubles (before tree kernel kernel_apart earlier))
      (map-append (item_of tree) (by_module m) (flat_map by_module ms))
      ∙ doubles-append (before tree kernel kernel_apart earlier) (map (item_of tree) (by_module m))
      (map (item_of tree) (flat_map by_module ms))
      ∙ ap (λ l. l
      ++ item_doubles
      (before tree kernel kernel_apart earlier ++ map (item_of tree) (by_module m))
      (map (item_of tree) (flat_map by_module ms)))
      (of-module earlier earlier_apart m apart.0)
      ∙ ap (λ l. doubles_of kernel earlier m ++ l)
      (ap (λ b. item_doubles b (map (item_of tree) (flat_map by_module ms))) (before-more earlier m)
      ∙ after (earlier ++ m ∷ []) ms (apart-more earlier m earlier_apart apart.0) apart.1)

  -- the double lines of all items are those of the tree
  pub double-law : ModulesApart tree → item_doubles [] (items tree kernel) ≡ doubles kernel tree
  unfolding items all_provided before ModulesApart
  double-law apart =
      ap (item_doubles [])
      (map-append (item_of tree) (map by_kernel kernel.exports) (flat_map by_module tree))
      ∙ doubles-append [] (map (item_of tree) (map by_kernel kernel.exports))
      (map (item_of tree) (flat_map by_module tree))
      ∙ ap (λ l. l
      ++ item_doubles (map (item_of tree) (map by_kernel kernel.exports))
      (map (item_of tree) (flat_map by_module tree))) kernel-none
      ∙ ap (λ b. item_doubles b (map (item_of tree) (flat_map by_module tree)))
      (sym (append-nil (map (item_of tree) (map by_kernel kernel.exports))))
      ∙ after [] tree tt apart
      ∙ sym (doubles-are kernel tree)

-- exports whose names differ by their places
any-map : {X : Type 0} (p : Export → Bool) (q : X → Export) (xs : List X)
    → list_any p (map q xs) ≡ list_any (λ x. p (q x)) xs
any-map p q [] = refl
any-map p q (x ∷ xs) = ap (λ b. p (q x) || b) (any-map p q xs)

pub apart-map : {X : Type 0} (q : X → Export) (xs : List X)
    → AllPairs (λ (a b : X). (q a).name ≡ (q b).name → ⊥) xs → Apart (map q xs)
unfolding Apart has_name
apart-map q [] pairs = tt
apart-map q (x ∷ xs) pairs = (
  false_from_ne_true _ (λ some.
      let w
      = Any-from_list_any (λ y. bytes_eq (q y).name (q x).name) xs
      (sym (any-map (λ (e : Export). bytes_eq e.name (q x).name) q xs) ∙ some) in
      pairs 0 (suc w.0) w.1 (omega arith) (omega (arith, w.2))
      (ap (λ y. (q x).name) w.3 ∙ sym (bytes-same (q w.1).name (q x).name w.4)
      ∙ ap (λ y. (q y).name) (sym w.3))),
  apart-map q xs (λ i j d before within. pairs (suc i) (suc j) d (omega arith) (omega arith)),
)

-- the modules of a tree
pub modules-apart : (ts : List Facts) → All IsTreeModule ts → ModulesApart (modules_of ts)
unfolding ModulesApart
modules-apart [] all = tt
modules-apart (t ∷ ts) all = (
  apart-map export_of_facts t.exports (All-head IsTreeModule t ts all).distinct,
  modules-apart ts (All-tail IsTreeModule t ts all),
)
