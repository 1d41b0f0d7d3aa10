-- How an order is made: what the builder keeps beside the order.
use Rattle.std.specs.Prelude.{ℕ, List, Bool, true, false, ◌≡◌, ◌≤◌, length, take, All, slice_index}
use Rattle.std.specs.Prelude.{slice_index_or}
use Rattle.std.specs.Global.{Vec}
use Rattle.relation_order.specs.Sets.{has, successors}
use Rattle.relation_order.specs.declared.order.OrderBuilder.{OrderBuilder}

-- The members among some items are listed.
abbrev pub AllListed : List Bool → List Bool → List ℕ → Type 0
AllListed members listed items = All (λ y. slice_index_or members y false ≡ true
    → slice_index_or listed y false ≡ true) items

-- Exactly the listed items are marked. The items of a list that were checked are listed. There is
-- room for each place.
pub record Fits (lists : List (Vec ℕ)) (members : List Bool) (b : OrderBuilder) : Type 0 where
  pub marks : (y : ℕ) → slice_index_or b.listed.items y false ≡ has b.order.items y
  pub listed_long : length b.listed.items ≡ length members
  pub waits_long : length b.waits.items ≡ length members
  pub looked_long : length b.looked.items ≡ length members
  pub looked_within : (x : ℕ) → slice_index b.looked.items x ≤ length (successors lists x)
  pub looked : (x : ℕ) → AllListed members b.listed.items
      (take (slice_index b.looked.items x) (successors lists x))
