-- Trees of two modules, and lists of few items.
use Rattle.std.proofs.Common.{◌≡◌, ◌∷◌, [], List, All, AllPairs, subst, sym, arith}
use Rattle.std.proofs.lemmas.List.Elements.{All-nil, All-cons}
use Rattle.std.proofs.lemmas.List.Quantifiers.{all_pairs_push}
use Rattle.module_facts.specs.declared.facts.Facts.{Facts}
use Rattle.provider_rel.specs.Tree.{IsTree, IsTreeModule}

-- no two items of a list of one
pub one-pair : {X : Type 0} (R : X → X → Type 0) (x : X) → AllPairs R (x ∷ [])
one-pair R x i j d before within = absurd (omega arith)

-- what holds of the only member of a list
pub alone : {A : Type 0} (P : A → Type 0) (xs : List A) (x : A) → xs ≡ x ∷ [] → P x → All P xs
alone P xs x is one = subst (All P) (sym is) (All-cons P x [] one (All-nil P))

-- two modules of different names
pub two-modules : (tree : List Facts) (a b : Facts) → IsTreeModule a → IsTreeModule b
    → (a.name ≡ b.name → ⊥) → tree ≡ a ∷ b ∷ [] → IsTree tree
two-modules tree a b good_a good_b apart is =
    let differ = λ (x y : Facts). x.name ≡ y.name → ⊥ in
    let unlike = λ (x : Facts). x.name ≡ b.name → ⊥ in
    subst IsTree (sym is) (record {
      few = omega arith;
      distinct
          = all_pairs_push differ (a ∷ []) b (one-pair differ a)
          (All-cons unlike a [] apart (All-nil unlike));
      modules
          = All-cons IsTreeModule a (b ∷ []) good_a
          (All-cons IsTreeModule b [] good_b (All-nil IsTreeModule));
    })
