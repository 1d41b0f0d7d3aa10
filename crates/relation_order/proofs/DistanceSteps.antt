-- The search for distances, in the code's terms.
use Rattle.std.proofs.Common.{◌≡◌, ℕ, ◌<◌, Bool, true, List, [], ◌∷◌, length, get_or, replicate}
use Rattle.std.proofs.Common.{sym, ap, ◌∙◌, arith}
use Rattle.std.proofs.lemmas.Bool.{true≢false}
use Rattle.std.specs.Prelude.{All}
use Rattle.std.specs.Global.{Vec}
use Rattle.std.proofs.lemmas.List.{get_or-replicate, get_or_default}
use Rattle.relation_order.specs.Sets.{has, goes, marked}
use Rattle.relation_order.proofs.Lists.{has-at, goes-at}
use Rattle.relation_order.proofs.PlaceSteps.{member-inside}

-- the table at the start
pub filled-far : (n count : ℕ) (members : List Bool) (far : List ℕ) → far ≡ replicate n count
    → n ≡ length members → count ≡ length (marked members) → (x : ℕ) → has (marked members) x ≡ true
    → get_or far x 0 ≡ length (marked members)
filled-far n count members far made n-is count-is x h =
    let l = member-inside members x h in
    ap (λ xs. get_or xs x 0) made ∙ get_or-replicate n x count 0 (omega arith) ∙ count-is

-- a member is one of some
pub some-member : (set : List ℕ) (x : ℕ) → has set x ≡ true → 0 < length set
some-member [] x h = absurd (true≢false (sym h))
some-member (y ∷ ys) x h = omega arith

-- lists that hold places alone, by their relation
pub inside-from_goes : (lists : List (Vec ℕ)) (n : ℕ) → ((x y : ℕ) → goes lists x y ≡ true → y < n)
    → All (λ (v : Vec ℕ). All (λ y. y < n) v.items) lists
inside-from_goes lists n low x d l i e m =
    low x (get_or (get_or lists x d).items i e)
    (goes-at lists x (get_or (get_or lists x d).items i e) (get_or lists x d) l
    (get_or_default lists x d (get_or lists x d) l)
    ∙ has-at (get_or lists x d).items i (get_or (get_or lists x d).items i e) m
    (get_or_default (get_or lists x d).items i e (get_or (get_or lists x d).items i e) m))
