-- What is under the names of a map that depmod made.
use Rattle.std.proofs.Common.{◌≡◌, ◌∙◌, ◌<◌, ◌==◌, ℕ, zero, suc, Bool, true, false, ◌&&◌, List, []}
use Rattle.std.proofs.Common.{◌∷◌, length, map, reverse, flat_map, Option, Some, None, refl, sym}
use Rattle.std.proofs.Common.{ap, subst, inl, inr, arith}
use Rattle.std.specs.Prelude.{◌⊎◌, not, slice_get, unwrap_or}
use Rattle.std.specs.List.{list_any, list_all, slice_split}
use Rattle.std.specs.Option.{option_map_or}
use Rattle.std.specs.Char.{is_ascii_graphic}
use Rattle.std.specs.FinMap.{empty, get-empty}
use Rattle.std.specs.Cmp.Lexicographic.{slice_cmp}
use Rattle.std.specs.Ordering.{nat_cmp}
use Rattle.std.specs.Str.{bytes_eq}
use Rattle.std.proofs.lemmas.Bool.{or_parts, or_left, or_right, and_parts, eq-eqb, cases_Bool}
use Rattle.std.proofs.lemmas.List.{reverse-append}
use Rattle.std.proofs.lemmas.List.Folds.{list_any-append}
use Rattle.std.proofs.lemmas.Slice.Eq.{bytes_eq-Decides}
use Rattle.km_names.specs.Ascii.{is_graphic}
use Rattle.km_names.specs.Path.{module_name}
use Rattle.index_format.specs.Map.{Value, KeyValues, values_of}
use Rattle.index_format.specs.Listing.{KeyValue}
use Rattle.mod_tree.specs.DependencyLine.{are_needed, is_dependency_line, is_line_path}
use Rattle.mod_tree.specs.DependencyLine.{is_separator, line_needs, own_path, pieces_after}
use Rattle.relation_order.specs.Sets.{Relation, has, below}
use Rattle.relation_order.specs.Reached.{reached}
use Rattle.relation_order.specs.Closures.{closure}
use Rattle.relation_order.proofs.Lists.{range-has}
use Rattle.relation_order.proofs.LeastLaws.{least-members}
use Rattle.relation_order.proofs.ReachedLaws.{reached-only}
use Rattle.module_facts.specs.declared.facts.Facts.{Facts}
use Rattle.kernel_exports.specs.declared.kernel.Kernel.{Kernel}
use Rattle.provider_rel.specs.Faces.{modules_of, kernel_of}
use Rattle.provider_rel.specs.Relation.{dependencies, uses_at}
use Rattle.depmod_core.specs.Dependencies.{dep_map, dependency_line, path_at}
use Rattle.laws_closed_plans.specs.Members.{Member}
use Rattle.laws_closed_plans.proofs.ListLemmas.{Member-cases, from-map}
use Rattle.laws_closed_plans.proofs.LineLemmas.{member-place}
use Rattle.laws_indexed_folder.specs.Index.{IsAtPath, IsLineIn}
use Rattle.laws_indexed_folder.specs.Binding.{StandsAsIndexed, LinesAreOfTree}
use Rattle.laws_indexed_folder.proofs.IndexLemmas.{after-at, colonless, get-member, needs-are}
use Rattle.laws_indexed_folder.proofs.IndexLemmas.{own-is, pieces, visible-spaceless}
use Rattle.laws_indexed_folder.proofs.MapLemmas.{files-have-lines, key-named, numbered, other-keys}

-- a key has a value, or none has it
either-key : (q : List ℕ) (ps : List KeyValue)
    → ((p : KeyValue) × Member p ps × (p.0 ≡ q))
    ⊎ ((p : KeyValue) → Member p ps → bytes_eq q p.0 ≡ false)
either-key q [] = inr (λ p in'. absurd in')
either-key q (p ∷ ps) = go (bytes_eq q p.0) refl (either-key q ps)
  where
    others : bytes_eq q p.0 ≡ false → ((r : KeyValue) → Member r ps → bytes_eq q r.0 ≡ false)
        → (r : KeyValue) → Member r (p ∷ ps) → bytes_eq q r.0 ≡ false
    others here none r (inl same) = subst (λ (s : KeyValue). bytes_eq q s.0 ≡ false) same here
    others here none r (inr later) = none r later

    go : (b : Bool) → bytes_eq q p.0 ≡ b
        → ((r : KeyValue) × Member r ps × (r.0 ≡ q))
        ⊎ ((r : KeyValue) → Member r ps → bytes_eq q r.0 ≡ false)
        → ((r : KeyValue) × Member r (p ∷ ps) × (r.0 ≡ q))
        ⊎ ((r : KeyValue) → Member r (p ∷ ps) → bytes_eq q r.0 ≡ false)
    go true is rest = inl (p, inl refl, sym ((bytes_eq-Decides q p.0).0 is))
    go false is (inl h) = inl (h.0, inr h.1, h.2)
    go false is (inr none) = inr (others is none)

from-reverse : {X : Type 0} (x : X) (xs : List X) → Member x (reverse xs) → Member x xs
from-reverse x [] in' = in'
from-reverse x (y ∷ ys) in' =
    elim (Member-cases x (reverse ys) (y ∷ [])
    (subst (Member x) (reverse-append (y ∷ []) ys) in')) [
      | inl early ↦ inr (from-reverse x ys early)
      | inr last ↦ own last
    ]
  where
    own : Member x (y ∷ []) → Member x (y ∷ ys)
    own (inl is) = inl is
    own (inr in'') = absurd in''

member-has : (xs : List ℕ) (x : ℕ) → Member x xs → has xs x ≡ true
member-has [] x in' = absurd in'
member-has (y ∷ ys) x (inl is) = or_left _ _ (eq-eqb x y (sym is))
member-has (y ∷ ys) x (inr later) = or_right _ _ (member-has ys x later)

some-at : {X : Type 0} (xs : List X) (i : ℕ) → i < length xs → (x : X) × (slice_get xs i ≡ Some x)
some-at [] i less = absurd (omega (arith, less))
some-at (x ∷ xs) zero less = (x, refl)
some-at (x ∷ xs) (suc i) less = some-at xs i (omega (arith, less))

-- the members of a closure are of the set
closure-low : (r : Relation) (n x y : ℕ) → Member y (closure r (below n) x) → y < n
closure-low r n x y in' =
    let inside : has (reached r (below n) x) y ≡ true
    = least-members r (reached r (below n) x) y (member-has (closure r (below n) x) y in') in
    let member : has (below n) y ≡ true =
    reached-only r (below n) x (λ z. has (below n) z ≡ true) (λ z set goes. set)
    (λ a z held set goes. set) y inside in
    let low = range-has 0 n y member in
    omega (arith, low.1)

-- no byte of a path parts what stands in a line
no-separator : (text : List ℕ) → list_all is_ascii_graphic text ≡ true
    → list_any (λ b. b == 58) text ≡ false → list_any is_separator text ≡ false
no-separator [] all colon = refl
no-separator (b ∷ bs) all colon =
    let h = and_parts (is_ascii_graphic b) (list_all is_ascii_graphic bs) all in
    let k = or_parts (b == 58) (list_any (λ b. b == 58) bs) colon in
    let space : (b == 32) ≡ false = not_space b h.0 in
    let end : (b == 10) ≡ false = not_end b h.0 in
    rw (space, k.0, end) (no-separator bs h.1 k.1)
  where
    not_space : (b : ℕ) → is_ascii_graphic b ≡ true → (b == 32) ≡ false
    not_space b graphic
        = elim (cases_Bool (b == 32)) [ inl is ↦ absurd (apart b is graphic) | inr other ↦ other ]
      where
        apart : (b : ℕ) → (b == 32) ≡ true → is_ascii_graphic b ≡ true → ⊥
        apart b is graphic = grind (arith)

    not_end : (b : ℕ) → is_ascii_graphic b ≡ true → (b == 10) ≡ false
    not_end b graphic
        = elim (cases_Bool (b == 10)) [ inl is ↦ absurd (apart b is graphic) | inr other ↦ other ]
      where
        apart : (b : ℕ) → (b == 10) ≡ true → is_ascii_graphic b ≡ true → ⊥
        apart b is graphic = grind (arith)

line-path : (f : Facts) → IsAtPath f → is_line_path f.path ≡ true
unfolding is_graphic
line-path f at =
    let words : list_all is_ascii_graphic f.path ≡ true
    = (and_parts (not (length f.path == 0)) (list_all is_ascii_graphic f.path) at.visible).1 in
    rw (at.kind, no-separator f.path words (colonless f at)) refl

each-all : (p : List ℕ → Bool) (xs : List (List ℕ)) → ((x : List ℕ) → Member x xs → p x ≡ true)
    → list_all p xs ≡ true
each-all p [] each = refl
each-all p (x ∷ xs) each = rw (each x (inl refl), each-all p xs (λ y in'. each y (inr in'))) refl

-- the paths that a line needs are of modules of the tree
module _ (tree : List Facts) (paths : (f : Facts) → Member f tree → IsAtPath f) where
  of-tree : (r : Relation) (i : ℕ) (path : List ℕ)
      → Member path (map (path_at tree) (reverse (closure r (below (length tree)) i)))
      → (other : Facts) × Member other tree × (other.path ≡ path)
  of-tree r i path in' =
      let c = closure r (below (length tree)) i in
      let h = from-map (path_at tree) path (reverse c) in' in
      let low = closure-low r (length tree) i h.0 (from-reverse h.0 c h.1) in
      let g = some-at tree h.0 low in (
        g.0,
        get-member tree h.0 g.0 g.1,
        ap (λ o. option_map_or (λ (f : Facts). f.path) o []) (sym g.1) ∙ h.2,
      )

  spaceless : (r : Relation) (i : ℕ) (path : List ℕ)
      → Member path (map (path_at tree) (reverse (closure r (below (length tree)) i)))
      → list_any (λ b. b == 32) path ≡ false
  spaceless r i path in' =
      let h = of-tree r i path in' in
      subst (λ p. list_any (λ b. b == 32) p ≡ false) h.2
      (visible-spaceless h.0.path (paths h.0 h.1).visible)

  is-line : (r : Relation) (i : ℕ) (f : Facts) → Member f tree
      → is_dependency_line
      (dependency_line f.path
      (map (path_at tree) (reverse (closure r (below (length tree)) i))))
      ≡ true
  unfolding is_dependency_line
  is-line r i f in' =
      let os = map (path_at tree) (reverse (closure r (below (length tree)) i)) in
      let at = paths f in' in
      let line = dependency_line f.path os in
      let colon : list_any (λ b. b == 58) line ≡ true =
      list_any-append (λ b. b == 58) f.path (58 ∷ flat_map (λ other. 32 ∷ other) os)
      ∙ rw (colonless f at) refl in
      let own : is_line_path (own_path line) ≡ true
      = ap is_line_path (own-is f os at) ∙ line-path f at in
      let parted : pieces_after line ≡ [] ∷ os =
      ap (slice_split (λ b. b == 32))
      (after-at (λ b. b == 58) f.path 58 (flat_map (λ other. 32 ∷ other) os)
      (colonless f at) refl)
      ∙ pieces os (spaceless r i) in
      let needed : are_needed (pieces_after line) ≡ true =
      ap are_needed parted
      ∙ each-all is_line_path os
      (λ o in''. let h
      = of-tree r i o in'' in subst (λ p. is_line_path p ≡ true) h.2
      (line-path h.0 (paths h.0 h.1))) in
      all-three (list_any (λ b. b == 58) line) (is_line_path (own_path line))
      (are_needed (pieces_after line)) colon own needed
    where
      all-three : (a b c : Bool) → a ≡ true → b ≡ true → c ≡ true → (a && (b && c)) ≡ true
      all-three a b c is_a is_b is_c = rw (is_a, is_b, is_c) refl

  line-in : (r : Relation) (i : ℕ) (f : Facts) (name : List ℕ) → Member f tree → f.name ≡ name
      → IsLineIn tree name
      (dependency_line f.path
      (map (path_at tree) (reverse (closure r (below (length tree)) i))))
  line-in r i f name in' named =
      let os = map (path_at tree) (reverse (closure r (below (length tree)) i)) in
      let needs : line_needs (dependency_line f.path os) ≡ os
      = needs-are f.path os (colonless f (paths f in')) (spaceless r i) in
      record {
        owner = f;
        in_tree = in';
        named = named;
        is_line = is-line r i f in';
        own = own-is f os (paths f in');
        own_name = ap module_name (own-is f os (paths f in')) ∙ sym (paths f in').name ∙ named;
        others = λ path needed.
            let h = of-tree r i path (subst (Member path) needs needed) in
            (h.0, h.1, h.2, (paths h.0 h.1).name ∙ ap module_name h.2);
      }

first-value : (vs : List Value) (v w : Value) → vs ≡ w ∷ [] → slice_get vs 0 ≡ Some v → w ≡ v
first-value vs v w is first =
    let e : ◌≡◌ {A = Option Value} (Some w) (Some v)
    = sym (ap (λ l. slice_get l 0) is) ∙ first in cc

nothing : (vs : List Value) (v : Value) → vs ≡ [] → slice_get vs 0 ≡ Some v → ⊥
nothing vs v is first =
    let e : ◌≡◌ {A = Option Value} None (Some v) = sym (ap (λ l. slice_get l 0) is) ∙ first in cc

module _ (tree : List Facts) (kernel : Kernel) (dep : KeyValues)
    (indexed : StandsAsIndexed tree kernel dep) where
  abbrev r : Relation
  r = uses_at (modules_of tree) (kernel_of kernel)

  abbrev deps : List (List ℕ)
  deps = dependencies (modules_of tree) (kernel_of kernel)

  -- the value of a module of the tree
  value-at : (i : ℕ) (f : Facts) → slice_get tree i ≡ Some f
      → values_of dep f.name
      ≡ (
        i,
        dependency_line f.path
            (map (path_at tree) (reverse (closure r (below (length tree)) i))),
      )
      ∷ []
  value-at i f at
      = indexed.map f.name ∙ files-have-lines tree (kernel_of kernel) indexed.names i f at

  empty-at : (name : List ℕ)
      → ((p : KeyValue) → Member p (numbered tree 0 tree deps) → bytes_eq name p.0 ≡ false)
      → values_of dep name ≡ []
  unfolding dep_map
  empty-at name none =
      indexed.map name ∙ other-keys empty (numbered tree 0 tree deps) name none
      ∙ ap (λ o. unwrap_or o []) (get-empty (slice_cmp nat_cmp) name)

  pub named-line : (name : List ℕ) (v : Value) → slice_get (values_of dep name) 0 ≡ Some v
      → IsLineIn tree name v.1
  named-line name v first =
      elim (either-key name (numbered tree 0 tree deps)) [
        | inl h ↦ (let k = key-named tree 0 tree deps h.0 h.1 in
            let named : k.0.name ≡ name = k.2 ∙ h.2 in
            let at = member-place k.0 tree k.1 in
            let value = ap (values_of dep) (sym named) ∙ value-at at.0 k.0 at.1 in
            let same
            = first-value (values_of dep name) v (
              at.0,
              dependency_line k.0.path
                  (map (path_at tree) (reverse (closure r (below (length tree)) at.0))),
            )
            value first in
            subst (λ (w : Value). IsLineIn tree name w.1) same
            (line-in tree indexed.paths r at.0 k.0 name k.1 named))
        | inr none ↦ absurd (nothing (values_of dep name) v (empty-at name none) first)
      ]

  pub one-line : (f : Facts) → Member f tree → (v : Value) × (values_of dep f.name ≡ v ∷ [])
  one-line f in' =
      let at = member-place f tree in' in (
        (
          at.0,
          dependency_line f.path
              (map (path_at tree) (reverse (closure r (below (length tree)) at.0))),
        ),
        value-at at.0 f at.1,
      )

pub lines-are-of-tree : LinesAreOfTree
lines-are-of-tree tree kernel dep indexed =
    (named-line tree kernel dep indexed, one-line tree kernel dep indexed)
