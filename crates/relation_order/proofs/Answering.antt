-- The least order of a set is an order of it if it is as long as the set, and otherwise there is a
-- cycle.
use Rattle.std.proofs.Common.{◌≡◌, ℕ, true, List, [], length, Option, Some, None, sym, refl, ap}
use Rattle.std.proofs.Common.{◌∙◌, subst}
use Rattle.std.specs.List.{find}
use Rattle.std.specs.Prelude.{filter, slice_index_or}
use Rattle.std.proofs.Common.{replicate, false, arith}
use Rattle.std.proofs.lemmas.List.{length-replicate, get_or-replicate}
use Rattle.relation_order.proofs.Lists.{range-has}
use Rattle.relation_order.proofs.Saturation.{filter-same}
use Rattle.relation_order.specs.Sets.{Relation, has, below, marked}
use Rattle.relation_order.specs.Reached.{reached}
use Rattle.relation_order.specs.Least.{least_order}
use Rattle.relation_order.specs.Cycle.{cycle}
use Rattle.relation_order.specs.Answer.{IsOrder, Closes}
use Rattle.relation_order.proofs.Placing.{Rising}
use Rattle.relation_order.proofs.LeastLaws.{least-members, least-after}
use Rattle.relation_order.proofs.Complete.{whole, all-from_length, length-from_all}
use Rattle.relation_order.proofs.Complete.{empty-from_all_listed, all-listed_from_empty}
use Rattle.relation_order.proofs.CycleSteps.{cycle-none}
use Rattle.relation_order.proofs.Closing.{cycle-closes}
use Rattle.relation_order.proofs.Restricted.{same-tests}

pub order-empty : (r : Relation) (set : List ℕ) → Rising set
    → length (least_order r set) ≡ length set → cycle r set ≡ []
order-empty r set up long = empty-from_all_listed r set (all-from_length r set up long)

pub order-is : (r : Relation) (set : List ℕ) → Rising set → length (least_order r set) ≡ length set
    → IsOrder r set (least_order r set)
order-is r set up long =
    record {
      members = λ x. same-tests _ _ (least-members r set x) (all-from_length r set up long x);
      long = long;
      after = least-after r set;
    }

pub cycle-is : (r : Relation) (set : List ℕ) → Rising set
    → (length (least_order r set) ≡ length set → ⊥) → Closes r (cycle r set)
cycle-is r set up short = go (find (λ x. has (reached r set x) x) set) refl
  where
    go : (first : Option ℕ) → find (λ x. has (reached r set x) x) set ≡ first
        → Closes r (cycle r set)
    go None none
        = absurd
        (short (length-from_all r set up (all-listed_from_empty r set (cycle-none r set none))))
    go (Some first) found = let w = cycle-closes r set first found in subst (Closes r) (sym w.1) w.2

-- where all are marked, each number below their count is a member
pub marked-all : (n : ℕ) → marked (replicate n true) ≡ below n
marked-all n =
    ap (λ k. filter (λ y. slice_index_or (replicate n true) y false) (below k))
    (length-replicate n true)
    ∙ filter-same (λ y. slice_index_or (replicate n true) y false) (λ _. true) (below n)
    (λ y h. let w = range-has 0 n y h in get_or-replicate n y true false (omega arith))
    ∙ whole (below n)
