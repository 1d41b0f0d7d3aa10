-- The values of a map by their keys.
use Rattle.std.proofs.Common.{◌≡◌, ◌∙◌, ◌+◌, ◌<◌, zero-add, ℕ, zero, suc, false, cond, List, []}
use Rattle.std.proofs.Common.{◌∷◌, length, map, Some, option_map, unwrap_or, refl, sym, ap, subst}
use Rattle.std.proofs.Common.{inl, inr, arith}
use Rattle.std.specs.Prelude.{AllPairs, slice_get}
use Rattle.std.specs.List.{zip, enumerate_from, range_with_len}
use Rattle.std.specs.Ordering.{nat_cmp}
use Rattle.std.specs.Cmp.Lexicographic.{slice_cmp}
use Rattle.std.specs.FinMap.{empty, get, get-empty, get-insert}
use Rattle.std.specs.Str.{bytes_eq}
use Rattle.std.proofs.lemmas.Bool.{cases_Bool}
use Rattle.std.proofs.lemmas.Cmp.{nat_list_cmp_total, nat_list_eq_equiv}
use Rattle.std.proofs.lemmas.Map.Text.{is_eq-slice_cmp}
use Rattle.std.proofs.lemmas.List.{length-map}
use Rattle.std.proofs.lemmas.Option.{slice_get-map}
use Rattle.std.proofs.lemmas.Slice.Eq.{bytes_eq-Decides}
use Rattle.index_format.specs.Map.{Value, KeyValues, values_of, place, with_value}
use Rattle.index_format.specs.Listing.{KeyValue}
use Rattle.relation_order.specs.Sets.{Relation, below}
use Rattle.relation_order.specs.Closures.{closure, closures}
use Rattle.module_facts.specs.declared.facts.Facts.{Facts}
use Rattle.provider_rel.specs.Faces.{module_of, modules_of}
use Rattle.provider_rel.specs.Relation.{uses_at, dependencies}
use Rattle.stated_texts.specs.Maps.{with_values}
use Rattle.depmod_core.specs.Dependencies.{dep_value, dep_map, line_of}
use Rattle.laws_closed_plans.specs.Members.{Member}
use Rattle.laws_closed_plans.proofs.UnmetLemmas.{all-member}
use Rattle.laws_indexed_folder.specs.Index.{FilesHaveLines}

-- a value of one key leaves those of another
other-key : (m : KeyValues) (k : List ℕ) (v : Value) (q : List ℕ) → bytes_eq q k ≡ false
    → values_of (with_value m k v) q ≡ values_of m q
other-key m k v q apart =
    ap (λ o. unwrap_or o [])
    (get-insert nat_list_cmp_total m k (place (values_of m k) v) q
    ∙ ap (λ b. cond b (Some (place (values_of m k) v)) (get m q))
    (is_eq-slice_cmp q k ∙ apart))

-- it is the one value of a key that had none
own-key : (m : KeyValues) (k : List ℕ) (v : Value) → values_of m k ≡ []
    → values_of (with_value m k v) k ≡ v ∷ []
own-key m k v none =
    ap (λ o. unwrap_or o [])
    (get-insert nat_list_cmp_total m k (place (values_of m k) v) k
    ∙ ap (λ b. cond b (Some (place (values_of m k) v)) (get m k))
    (is_eq-slice_cmp k k ∙ (bytes_eq-Decides k k).1 refl))
    ∙ ap (λ vs. place vs v) none

pub other-keys : (m : KeyValues) (ps : List KeyValue) (q : List ℕ)
    → ((p : KeyValue) → Member p ps → bytes_eq q p.0 ≡ false)
    → values_of (with_values m ps) q ≡ values_of m q
other-keys m [] q apart = refl
other-keys m (p ∷ ps) q apart =
    other-keys (with_value m p.0 p.1) ps q (λ r in'. apart r (inr in'))
    ∙ other-key m p.0 p.1 q (apart p (inl refl))

-- no two of the values have one key
abbrev AreApart : List KeyValue → Type 0
AreApart [] = Unit {0}
AreApart (p ∷ ps) = ((q : KeyValue) → Member q ps → bytes_eq p.0 q.0 ≡ false) × AreApart ps

names-flip : (x y : List ℕ) → bytes_eq x y ≡ bytes_eq y x
names-flip x y = nat_list_eq_equiv.symm x y

-- each of such values is the one of its key
one-value : (m : KeyValues) (ps : List KeyValue) (p : KeyValue) → AreApart ps → values_of m p.0 ≡ []
    → Member p ps → values_of (with_values m ps) p.0 ≡ p.1 ∷ []
one-value m [] p apart none in' = absurd in'
one-value m (q ∷ ps) p apart none (inl is) =
    let own : values_of (with_value m q.0 q.1) p.0 ≡ p.1 ∷ [] =
    subst (λ (r : KeyValue). values_of (with_value m r.0 r.1) p.0 ≡ p.1 ∷ []) (sym is)
    (own-key m p.0 p.1 none) in
    let others : (r : KeyValue) → Member r ps → bytes_eq p.0 r.0 ≡ false =
    λ r in''. subst (λ (s : KeyValue). bytes_eq s.0 r.0 ≡ false) is (apart.0 r in'') in
    other-keys (with_value m q.0 q.1) ps p.0 others ∙ own
one-value m (q ∷ ps) p apart none (inr later) =
    one-value (with_value m q.0 q.1) ps p apart.1
    (other-key m q.0 q.1 p.0 (names-flip p.0 q.0 ∙ apart.0 p later) ∙ none) later

-- dependents with their numbers
abbrev pub numbered : List Facts → ℕ → List Facts → List (List ℕ) → List KeyValue
numbered tree n ms cs = map (dep_value tree) (enumerate_from n (zip ms cs))

-- the keys are names of the modules
pub key-named : (tree : List Facts) (n : ℕ) (ms : List Facts) (cs : List (List ℕ)) (p : KeyValue)
    → Member p (numbered tree n ms cs) → (f : Facts) × Member f ms × (f.name ≡ p.0)
key-named tree n [] cs p in' = absurd in'
key-named tree n (f ∷ ms) [] p in' = absurd in'
key-named tree n (f ∷ ms) (c ∷ cs) p (inl is) = (f, inl refl, ap (λ (q : KeyValue). q.0) is)
key-named tree n (f ∷ ms) (c ∷ cs) p (inr later) =
    let h = key-named tree (n + 1) ms cs p later in (h.0, inr h.1, h.2)

not-same : (x y : List ℕ) → (x ≡ y → ⊥) → bytes_eq x y ≡ false
not-same x y differ =
    elim (cases_Bool (bytes_eq x y))
    [ inl is ↦ absurd (differ ((bytes_eq-Decides x y).0 is)) | inr is ↦ is ]

numbered-apart : (tree : List Facts) (n : ℕ) (ms : List Facts) (cs : List (List ℕ))
    → AllPairs (λ (a b : Facts). a.name ≡ b.name → ⊥) ms → AreApart (numbered tree n ms cs)
numbered-apart tree n [] cs apart = tt
numbered-apart tree n (f ∷ ms) [] apart = tt
numbered-apart tree n (f ∷ ms) (c ∷ cs) apart = (
  λ q in'.
      let h = key-named tree (n + 1) ms cs q in' in
      not-same f.name q.0
      (λ same. all-member (λ (g : Facts). f.name ≡ g.name → ⊥) h.0 ms
      (λ k d less. apart 0 (suc k) d (omega arith) (omega (arith, less))) h.1
      (same ∙ sym h.2)),
  numbered-apart tree (n + 1) ms cs
      (λ i j d less inside. apart (suc i) (suc j) d (omega (arith, less)) (omega (arith, inside))),
)

-- the value of the module at a place
numbered-at : (tree : List Facts) (n : ℕ) (ms : List Facts) (cs : List (List ℕ)) (i : ℕ) (f : Facts)
    (c : List ℕ)
    → slice_get ms i ≡ Some f → slice_get cs i ≡ Some c
    → Member (dep_value tree (n + i, (f, c))) (numbered tree n ms cs)
numbered-at tree n [] cs i f c at_f at_c = absurd cc
numbered-at tree n (g ∷ ms) [] i f c at_f at_c = absurd cc
numbered-at tree n (g ∷ ms) (d ∷ cs) zero f c at_f at_c =
    let one : g ≡ f = cc in
    let other : d ≡ c = cc in
    let same : n ≡ n + 0 = omega arith in
    inl (ap (λ k. dep_value tree (k, (g, d))) same ∙ ap (λ h. dep_value tree (n + 0, (h, d))) one
    ∙ ap (λ e. dep_value tree (n + 0, (f, e))) other)
numbered-at tree n (g ∷ ms) (d ∷ cs) (suc i) f c at_f at_c =
    let same : n + 1 + i ≡ n + suc i = omega arith in
    inr (subst (λ k. Member (dep_value tree (k, (f, c)))
    (map (dep_value tree) (enumerate_from (n + 1) (zip ms cs)))) same
    (numbered-at tree (n + 1) ms cs i f c at_f at_c))

-- a place among those below a number
below-at : (a n i : ℕ) → i < n → slice_get (range_with_len a n) i ≡ Some (a + i)
below-at a zero i less = absurd (omega (arith, less))
below-at a (suc n) zero less = let same : a ≡ a + 0 = omega arith in ap Some same
below-at a (suc n) (suc i) less =
    let same : a + 1 + i ≡ a + suc i = omega arith in
    below-at (a + 1) n i (omega (arith, less)) ∙ ap Some same

within : {X : Type 0} (xs : List X) (i : ℕ) (x : X) → slice_get xs i ≡ Some x → i < length xs
within [] i x is = absurd cc
within (y ∷ xs) zero x is = omega arith
within (y ∷ xs) (suc i) x is = let h = within xs i x is in omega (arith, h)

closure-at : (r : Relation) (n i : ℕ) → i < n
    → slice_get (closures r n) i ≡ Some (closure r (below n) i)
closure-at r n i less =
    slice_get-map (closure r (below n)) (below n) i
    ∙ ap (option_map (closure r (below n))) (below-at 0 n i less ∙ ap Some (zero-add i))

pub files-have-lines : FilesHaveLines
unfolding dep_map dependencies
files-have-lines tree kernel apart i f at =
    let r = uses_at (modules_of tree) kernel in
    let count : length (modules_of tree) ≡ length tree = length-map tree module_of in
    let c = closure r (below (length tree)) i in
    let at_c : slice_get (dependencies (modules_of tree) kernel) i ≡ Some c =
    ap (λ n. slice_get (closures r n) i) count
    ∙ closure-at r (length tree) i (within tree i f at) in
    let one : values_of (dep_map tree (dependencies (modules_of tree) kernel)) f.name
    ≡ (0 + i, line_of tree (f, c)) ∷ []
    =
    one-value empty (numbered tree 0 tree (dependencies (modules_of tree) kernel))
    (dep_value tree (0 + i, (f, c)))
    (numbered-apart tree 0 tree (dependencies (modules_of tree) kernel) apart)
    (ap (λ o. unwrap_or o []) (get-empty (slice_cmp nat_cmp) f.name))
    (numbered-at tree 0 tree (dependencies (modules_of tree) kernel) i f c at at_c) in
    one ∙ ap (λ k. (k, line_of tree (f, c)) ∷ []) (zero-add i)
