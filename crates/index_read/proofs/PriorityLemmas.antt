-- A list of values by rising priority, in which values of one priority keep their order, is one
-- list.
use Rattle.std.proofs.Common.{◌≡◌, refl, sym, ap, ◌∙◌, nat_le, List, [], ◌∷◌, if◌then◌else◌}
use Rattle.index_format.specs.Map.{Value}
use Rattle.index_format.specs.Listing.{IsByPriority}
use Rattle.index_format.proofs.StableOrder.{insert_by, sorted_by, stable-sorted_by}
use Rattle.index_read.specs.Contents.{insert_first, by_priority}

insert_first-by : (v : Value) (ws : List Value) → insert_first v ws ≡ insert_by (λ w. w.0) v ws
insert_first-by v [] = refl
insert_first-by v (w ∷ ws) =
    ap (λ us. if nat_le v.0 w.0 then v ∷ w ∷ ws else w ∷ us) (insert_first-by v ws)

by_priority-sorted : (vs : List Value) → by_priority vs ≡ sorted_by (λ v. v.0) vs
by_priority-sorted [] = refl
by_priority-sorted (v ∷ vs) =
    ap (insert_first v) (by_priority-sorted vs) ∙ insert_first-by v (sorted_by (λ w. w.0) vs)

pub by_priority-is : (before after : List Value) → IsByPriority before after
    → after ≡ by_priority before
by_priority-is before after h =
    stable-sorted_by (λ v. v.0) (λ p. (p, [])) (λ p. refl) before after h.rises h.stable
    ∙ sym (by_priority-sorted before)
