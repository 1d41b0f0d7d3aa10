-- A tree of two modules, one of them using the other.
use Rattle.std.proofs.Common.{◌≡◌, ◌∙◌, ℕ, zero, suc, true, false, List, [], ◌∷◌, ◌++◌, length}
use Rattle.std.proofs.Common.{Some, refl, sym, ap, subst, inl, inr, arith, codes}
use Rattle.std.specs.Prelude.{AllPairs, slice_get}
use Rattle.std.specs.List.{IsDistinct}
use Rattle.std.specs.Str.{bytes_eq}
use Rattle.std.proofs.lemmas.Bool.{true≢false}
use Rattle.relation_order.specs.Sets.{has, below}
use Rattle.relation_order.specs.Reached.{reached}
use Rattle.relation_order.specs.Least.{least_order}
use Rattle.relation_order.specs.Closures.{closure}
use Rattle.relation_order.specs.Cycle.{cycle}
use Rattle.relation_order.proofs.Lists.{range-has}
use Rattle.module_facts.specs.declared.facts.Facts.{Facts}
use Rattle.name_table.specs.FirstSeen.{is_among}
use Rattle.symbol_binding.specs.Symbols.{Module, Kernel as SeenKernel}
use Rattle.symbol_binding.specs.Needs.{agree}
use Rattle.symbol_binding.specs.Unmet.{unmet}
use Rattle.kernel_exports.specs.declared.kernel.Kernel.{Kernel}
use Rattle.provider_rel.specs.Faces.{module_of, modules_of, kernel_of}
use Rattle.provider_rel.specs.Relation.{name_at, uses_at}
use Rattle.laws_closed_plans.specs.Members.{Member}
use Rattle.laws_closed_plans.specs.Lines.{AreClosed, AreLinesOf}
use Rattle.laws_closed_plans.specs.Instance.{taker, two, two_lines, TwoAreClosed}

abbrev bare : SeenKernel
bare = record { known = true; exports = [] }

seen : (kernel : Kernel) → kernel.known ≡ true → kernel.exports ≡ [] → kernel_of kernel ≡ bare
seen kernel known none = rw (known, none) refl

apart : codes "p" ≡ codes "m" → ⊥
apart same = true≢false (ap (λ name. bytes_eq name (codes "p")) same)

names : AllPairs (λ (a b : Facts). a.name ≡ b.name → ⊥) two
names zero zero d less inside = absurd (omega arith)
names zero (suc zero) d less inside = apart
names zero (suc (suc j)) d less inside = absurd (omega (arith, inside))
names (suc i) zero d less inside = absurd (omega arith)
names (suc i) (suc j) d less inside = absurd (omega (arith, less, inside))

none-cycle : cycle (uses_at (modules_of two) bare) (below 2) ≡ []
unfolding cycle reached
none-cycle = refl

unused : (j : ℕ) → has (closure (uses_at (modules_of two) bare) (below 2) 0) j ≡ false
unfolding least_order reached
unused j = refl

used : (j : ℕ) → has (closure (uses_at (modules_of two) bare) (below 2) 1) j ≡ has (0 ∷ []) j
unfolding least_order reached
used j = refl

lines : AreLinesOf (modules_of two) bare two_lines
lines = record { paths = paths; named = named }
  where
    paths : (m : Module) → Member m (modules_of two) → two_lines.path m.face.name ≡ m.path
    paths m (inl is) = subst (λ (m : Module). two_lines.path m.face.name ≡ m.path) is refl
    paths m (inr (inl is)) = subst (λ (m : Module). two_lines.path m.face.name ≡ m.path) is refl
    paths m (inr (inr in')) = absurd in'

    only : (j : ℕ) → has (0 ∷ []) j ≡ true → Member (name_at (modules_of two) j) (codes "p" ∷ [])
    only zero inside = inl refl
    only (suc j) inside = let low = (range-has 0 1 (suc j) inside).1 in absurd (omega (arith, low))

    named : (i j : ℕ) (m : Module) → slice_get (modules_of two) i ≡ Some m
        → has (closure (uses_at (modules_of two) bare) (below (length (modules_of two))) i) j ≡ true
        → Member (name_at (modules_of two) j) (two_lines.line m.face.name)
    named zero j m at inside = absurd (true≢false (sym inside ∙ unused j))
    named (suc zero) j m at inside =
        let is : module_of taker ≡ m = cc in
        subst (λ (m : Module). Member (name_at (modules_of two) j) (two_lines.line m.face.name)) is
        (only j (sym (used j) ∙ inside))
    named (suc (suc i)) j m at inside = absurd cc

none-unmet : unmet (modules_of two) bare ≡ []
unfolding unmet agree
none-unmet = refl

closed : AreClosed two_lines [] [] (codes "p" ∷ codes "m" ∷ [])
unfolding IsDistinct
closed = record {
  distinct = ((refl, tt), (tt, tt));
  unlisted = λ x in'. refl;
  behind = behind;
  alone = refl;
  clear = λ x in'. refl;
}
  where
    first-two : (front : List (List ℕ)) (x : List ℕ) (back : List (List ℕ))
        → codes "p" ∷ codes "m" ∷ [] ≡ front ++ x ∷ back → (y : List ℕ)
        → Member y (two_lines.line x) → is_among front y ≡ true
    first-two [] x back split y in' =
        let is : codes "p" ≡ x = cc in
        absurd (subst (λ n. Member y (two_lines.line n)) (sym is) in')
    first-two (f ∷ []) x back split y in' =
        let is : codes "m" ≡ x = cc in
        let own : codes "p" ≡ f = cc in
        among f y own (subst (λ n. Member y (two_lines.line n)) (sym is) in')
      where
        among : (f y : List ℕ) → codes "p" ≡ f → Member y (codes "p" ∷ [])
            → is_among (f ∷ []) y ≡ true
        among f y own (inl same)
            = subst (λ n. is_among (n ∷ []) y ≡ true) own
            (subst (λ n. is_among (codes "p" ∷ []) n ≡ true) same refl)
        among f y own (inr none) = absurd none
    first-two (f ∷ g ∷ front) x back split y in' = absurd (longer f g front x back split)
      where
        longer : (f g : List ℕ) (front : List (List ℕ)) (x : List ℕ) (back : List (List ℕ))
            → codes "p" ∷ codes "m" ∷ [] ≡ f ∷ g ∷ front ++ x ∷ back → ⊥
        longer f g [] x back split = let e : ◌≡◌ {A = List (List ℕ)} [] (x ∷ back) = cc in cc
        longer f g (h ∷ front) x back split
            = let e : ◌≡◌ {A = List (List ℕ)} [] (h ∷ front ++ x ∷ back)
            = cc in cc

    behind : (before : List (List ℕ)) (x : List ℕ) (after : List (List ℕ))
        → codes "p" ∷ codes "m" ∷ [] ≡ before ++ x ∷ after → (y : List ℕ)
        → Member y (two_lines.line x) → is_among ([] ++ before) y ≡ true
    behind before x after split y in' = first-two before x after split y in'

pub two-are-closed : TwoAreClosed
two-are-closed kernel known none =
    let same = seen kernel known none in (
      record {
        known = known;
        names = names;
        acyclic
            = subst (λ k. cycle (uses_at (modules_of two) k) (below 2) ≡ []) (sym same) none-cycle;
        lines = subst (λ k. AreLinesOf (modules_of two) k two_lines) (sym same) lines;
      },
      subst (λ k. AreClosed two_lines (unmet (modules_of two) k) [] (codes "p" ∷ codes "m" ∷ []))
          (sym same)
          (subst (λ ls. AreClosed two_lines ls [] (codes "p" ∷ codes "m" ∷ [])) (sym none-unmet)
          closed),
    )
