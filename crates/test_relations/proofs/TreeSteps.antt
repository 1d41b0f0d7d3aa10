-- Trees of few modules.
use Rattle.std.proofs.Common.{◌≡◌, List, [], ◌∷◌, AllPairs, subst, sym, arith}
use Rattle.std.proofs.lemmas.List.Elements.{All-nil, All-cons}
use Rattle.module_facts.specs.declared.facts.Facts.{Facts}
use Rattle.provider_rel.specs.Tree.{IsTree, IsTreeModule}

-- no two items of a list of one
pub one-pair : {X : Type 0} (R : X → X → Type 0) (x : X) → AllPairs R (x ∷ [])
one-pair R x i j d before within = absurd (omega arith)

pub no-pair : {X : Type 0} (R : X → X → Type 0) → AllPairs {X = X} R []
no-pair R i j d before within = absurd (omega arith)

-- one module
pub one-tree : (tree : List Facts) (f : Facts) → IsTreeModule f → tree ≡ f ∷ [] → IsTree tree
one-tree tree f good is = subst IsTree (sym is) (record {
  few = omega arith;
  distinct = one-pair (λ (a b : Facts). a.name ≡ b.name → ⊥) f;
  modules = All-cons IsTreeModule f [] good (All-nil IsTreeModule);
})
