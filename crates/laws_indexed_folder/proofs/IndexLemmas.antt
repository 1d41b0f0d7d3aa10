-- Dependency lines taken apart.
use Rattle.std.proofs.Common.{◌≡◌, ◌∙◌, ◌+◌, ℕ, zero, suc, Bool, true, false, List, [], ◌∷◌, ◌++◌}
use Rattle.std.proofs.Common.{length, map, take, drop, Option, Some, None, option_map, refl, sym}
use Rattle.std.proofs.Common.{ap, subst, inl, inr, arith, reverse}
use Rattle.std.specs.Prelude.{◌==◌, not, IsTrue, flat_map, slice_get}
use Rattle.std.specs.List.{list_any, list_all, before_first, after_first, onto_first}
use Rattle.std.specs.List.{position_or_len, slice_split}
use Rattle.std.specs.Option.{option_map_or}
use Rattle.std.specs.Char.{is_ascii_graphic}
use Rattle.std.proofs.lemmas.Bool.{true≢false, or_parts, or_cases, and_parts, cases_Bool}
use Rattle.std.proofs.lemmas.List.{reverse-append, length-map}
use Rattle.std.proofs.lemmas.Option.{slice_get-map}
use Rattle.std.proofs.lemmas.List.Splits.{slice_split-cons_no}
use Rattle.km_names.specs.Ascii.{is_graphic}
use Rattle.km_names.specs.Path.{module_name}
use Rattle.index_format.specs.Map.{Value, KeyValues}
use Rattle.mod_tree.specs.DependencyLine.{own_path, pieces_after, line_needs}
use Rattle.relation_order.specs.Sets.{has, below}
use Rattle.relation_order.specs.Closures.{closure}
use Rattle.module_facts.specs.declared.facts.Facts.{Facts}
use Rattle.symbol_binding.specs.Symbols.{Module, Kernel}
use Rattle.provider_rel.specs.Faces.{module_of, modules_of}
use Rattle.provider_rel.specs.Relation.{uses_at, name_at}
use Rattle.depmod_core.specs.Dependencies.{dependency_line, path_at}
use Rattle.laws_closed_plans.specs.Members.{Member}
use Rattle.laws_closed_plans.specs.Lines.{AreLinesOf}
use Rattle.plan_builder.specs.Closed.{first_text}
use Rattle.laws_indexed_folder.specs.Index.{lines_of_map, HasLines, IsAtPath, MapsHaveLines}
use Rattle.laws_closed_plans.proofs.ListLemmas.{Member-left, Member-right, Member-map, from-map}
use Rattle.laws_closed_plans.proofs.LineLemmas.{member-place}

-- what stands before the first element that passes, and what follows it
before-at : (p : ℕ → Bool) (xs : List ℕ) (x : ℕ) (rest : List ℕ) → list_any p xs ≡ false
    → p x ≡ true → before_first p (xs ++ x ∷ rest) ≡ xs
before-at p [] x rest none is = rw is refl
before-at p (y ∷ ys) x rest none is =
    let h = or_parts (p y) (list_any p ys) none in
    let one : 1 + position_or_len p (ys ++ x ∷ rest) ≡ suc (position_or_len p (ys ++ x ∷ rest))
    = omega arith in
    rw h.0
    (ap (λ n. take n (y ∷ ys ++ x ∷ rest)) one ∙ ap (λ l. y ∷ l) (before-at p ys x rest h.1 is))

pub after-at : (p : ℕ → Bool) (xs : List ℕ) (x : ℕ) (rest : List ℕ) → list_any p xs ≡ false
    → p x ≡ true → after_first p (xs ++ x ∷ rest) ≡ rest
after-at p [] x rest none is = rw is refl
after-at p (y ∷ ys) x rest none is =
    let h = or_parts (p y) (list_any p ys) none in
    let one : 1 + position_or_len p (ys ++ x ∷ rest) + 1
    ≡ suc (position_or_len p (ys ++ x ∷ rest) + 1)
    = omega arith in
    rw h.0 (ap (λ n. drop n (y ∷ ys ++ x ∷ rest)) one ∙ after-at p ys x rest h.1 is)

-- a piece, and then the others
piece : (o rest : List ℕ) (os : List (List ℕ)) → list_any (λ b. b == 32) o ≡ false
    → slice_split (λ b. b == 32) rest ≡ [] ∷ os → slice_split (λ b. b == 32) (o ++ rest) ≡ o ∷ os
piece [] rest os none is = is
piece (b ∷ bs) rest os none is =
    let h = or_parts (b == 32) (list_any (λ b. b == 32) bs) none in
    slice_split-cons_no (λ b. b == 32) b (bs ++ rest) h.0
    ∙ ap (onto_first b) (piece bs rest os h.1 is)

-- pieces after spaces
pub pieces : (os : List (List ℕ)) → ((o : List ℕ) → Member o os → list_any (λ b. b == 32) o ≡ false)
    → slice_split (λ b. b == 32) (flat_map (λ other. 32 ∷ other) os) ≡ [] ∷ os
pieces [] none = refl
pieces (o ∷ os) none =
    ap (λ l. [] ∷ l)
    (piece o (flat_map (λ other. 32 ∷ other) os) os (none o (inl refl))
    (pieces os (λ p in'. none p (inr in'))))

pub needs-are : (path : List ℕ) (os : List (List ℕ)) → list_any (λ b. b == 58) path ≡ false
    → ((o : List ℕ) → Member o os → list_any (λ b. b == 32) o ≡ false)
    → line_needs (dependency_line path os) ≡ os
unfolding line_needs
needs-are path os colon none =
    let rest : pieces_after (dependency_line path os) ≡ [] ∷ os =
    ap (slice_split (λ b. b == 32))
    (after-at (λ b. b == 58) path 58 (flat_map (λ other. 32 ∷ other) os) colon refl)
    ∙ pieces os none in
    rw rest refl

-- a word of visible characters has no space
no-space : (text : List ℕ) → list_all is_ascii_graphic text ≡ true
    → list_any (λ b. b == 32) text ≡ false
no-space [] all = refl
no-space (b ∷ bs) all =
    let h = and_parts (is_ascii_graphic b) (list_all is_ascii_graphic bs) all in
    rw (no-space bs h.1)
    (elim (cases_Bool (b == 32))
    [ inl is ↦ absurd (other b is h.0) | inr differs ↦ rw differs refl ])
  where
    other : (b : ℕ) → (b == 32) ≡ true → is_ascii_graphic b ≡ true → ⊥
    other b is graphic = grind (arith)

pub visible-spaceless : (text : List ℕ) → IsTrue (is_graphic text)
    → list_any (λ b. b == 32) text ≡ false
unfolding is_graphic
visible-spaceless text visible = no-space text (and_parts _ _ visible).1

-- a member of places
pub has-member : (xs : List ℕ) (x : ℕ) → has xs x ≡ true → Member x xs
has-member [] x is = absurd (true≢false (sym is))
has-member (y ∷ ys) x is =
    elim (or_cases (x == y) (has ys x) is)
    [ inl here ↦ inl (sym (same x y here)) | inr later ↦ inr (has-member ys x later) ]
  where
    same : (x y : ℕ) → (x == y) ≡ true → x ≡ y
    same x y is = grind (arith)

pub Member-reverse : {X : Type 0} (x : X) (xs : List X) → Member x xs → Member x (reverse xs)
Member-reverse x [] in' = absurd in'
Member-reverse x (y ∷ ys) (inl is) =
    subst (Member x) (sym (reverse-append (y ∷ []) ys))
    (Member-right x (reverse ys) (y ∷ []) (inl is))
Member-reverse x (y ∷ ys) (inr later) =
    subst (Member x) (sym (reverse-append (y ∷ []) ys))
    (Member-left x (reverse ys) (y ∷ []) (Member-reverse x ys later))

pub get-member : {X : Type 0} (xs : List X) (i : ℕ) (x : X) → slice_get xs i ≡ Some x → Member x xs
get-member [] i x is = absurd cc
get-member (y ∷ ys) zero x is = let same : y ≡ x = cc in inl same
get-member (y ∷ ys) (suc i) x is = inr (get-member ys i x is)

mapped-at : {X Y : Type 0} (f : X → Y) (xs : List X) (i : ℕ) (y : Y)
    → slice_get (map f xs) i ≡ Some y → (x : X) × (slice_get xs i ≡ Some x) × (f x ≡ y)
mapped-at f [] i y is = absurd cc
mapped-at f (x ∷ xs) zero y is = let same : f x ≡ y = cc in (x, refl, same)
mapped-at f (x ∷ xs) (suc i) y is = mapped-at f xs i y is

pub colonless : (f : Facts) → IsAtPath f → list_any (λ b. b == 58) f.path ≡ false
colonless f at = go (list_any (λ b. b == 58) f.path) at.colon
  where
    go : (b : Bool) → IsTrue (not b) → b ≡ false
    go true is = absurd (true≢false (sym is))
    go false is = refl

pub own-is : (f : Facts) (needed : List (List ℕ)) → IsAtPath f
    → own_path (dependency_line f.path needed) ≡ f.path
own-is f needed at =
    before-at (λ b. b == 58) f.path 58 (flat_map (λ other. 32 ∷ other) needed) (colonless f at) refl

module _ (tree : List Facts) (kernel : Kernel) (dep : KeyValues)
    (paths : (f : Facts) → Member f tree → IsAtPath f) (lines : HasLines tree kernel dep) where
  -- names by places are those of paths by places
  name-by : (j : ℕ) (o : Option Facts) → slice_get tree j ≡ o
      → option_map_or (λ (m : Module). m.face.name) (option_map module_of o) []
      ≡ module_name (option_map_or (λ (f : Facts). f.path) o [])
  name-by j None is = refl
  name-by j (Some f) is = (paths f (get-member tree j f is)).name

  name-path : (j : ℕ) → name_at (modules_of tree) j ≡ module_name (path_at tree j)
  name-path j
      = ap (λ o. option_map_or (λ (m : Module). m.face.name) o []) (slice_get-map module_of tree j)
      ∙ name-by j (slice_get tree j) refl

  spaceless-by : (j : ℕ) (o : Option Facts) → slice_get tree j ≡ o
      → list_any (λ b. b == 32) (option_map_or (λ (f : Facts). f.path) o []) ≡ false
  spaceless-by j None is = refl
  spaceless-by j (Some f) is = visible-spaceless f.path (paths f (get-member tree j f is)).visible

  spaceless : (os : List ℕ) (o : List ℕ) → Member o (map (path_at tree) os)
      → list_any (λ b. b == 32) o ≡ false
  spaceless os o in' =
      let h = from-map (path_at tree) o os in' in
      subst (λ p. list_any (λ b. b == 32) p ≡ false) h.2
      (spaceless-by h.0 (slice_get tree h.0) refl)

  line-at : (i : ℕ) (f : Facts) → slice_get tree i ≡ Some f
      → first_text dep f.name
      ≡ dependency_line f.path
      (map (path_at tree)
      (reverse (closure (uses_at (modules_of tree) kernel) (below (length tree)) i)))
  line-at i f at = ap (λ vs. option_map_or (λ (v : Value). v.1) (slice_get vs 0) []) (lines i f at)

  pub maps-have : AreLinesOf (modules_of tree) kernel (lines_of_map dep)
  maps-have = record {
    paths = λ m in'.
        let h = from-map module_of m tree in' in
        let at = member-place h.0 tree h.1 in
        subst (λ (m : Module). own_path (first_text dep m.face.name) ≡ m.path) h.2
        (ap own_path (line-at at.0 h.0 at.1)
        ∙ own-is h.0 (map (path_at tree)
        (reverse
        (closure (uses_at (modules_of tree) kernel) (below (length tree)) at.0)))
        (paths h.0 h.1));
    named = λ i j m at inside.
        let places
        = closure (uses_at (modules_of tree) kernel) (below (length (modules_of tree))) i in
        let f = mapped-at module_of tree i m at in
        let needed = map (path_at tree) (reverse places) in
        let count : length (modules_of tree) ≡ length tree = length-map tree module_of in
        let line : first_text dep f.0.name ≡ dependency_line f.0.path needed =
        line-at i f.0 f.1
        ∙ ap (λ n. dependency_line f.0.path
        (map (path_at tree)
        (reverse (closure (uses_at (modules_of tree) kernel) (below n) i)))) (sym count)
        in
        let named : Member (module_name (path_at tree j)) (map module_name needed) =
        Member-map module_name (path_at tree j) needed
        (Member-map (path_at tree) j (reverse places)
        (Member-reverse j places (has-member places j inside))) in
        let texts : line_needs (first_text dep f.0.name) ≡ needed =
        ap line_needs line
        ∙ needs-are f.0.path needed (colonless f.0 (paths f.0 (get-member tree i f.0 f.1)))
        (spaceless (reverse places)) in
        subst (λ (m : Module). Member (name_at (modules_of tree) j)
        (map module_name (line_needs (first_text dep m.face.name)))) f.2
        (subst (λ name. Member name (map module_name (line_needs (first_text dep f.0.name))))
        (sym (name-path j))
        (subst (λ os. Member (module_name (path_at tree j)) (map module_name os))
        (sym texts) named));
  }

pub maps-have-lines : MapsHaveLines
maps-have-lines tree kernel dep paths lines = maps-have tree kernel dep paths lines
