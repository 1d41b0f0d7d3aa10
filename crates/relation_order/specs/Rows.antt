-- Rows of marks, 64 in a word: how contracts see `Closures`.
use Rattle.std.specs.Prelude.{ℕ, List, [], Bool, true, ◌≡◌, ◌≤◌, ◌/◌, ◌%◌, ◌≢◌, length, map, filter}
use Rattle.std.specs.Prelude.{All, nat_eq, slice_index, slice_index_or}
use Rattle.std.specs.Int.{bit_at, div_ceil}
use Rattle.std.specs.Global.{Vec}
use Rattle.std.specs.List.{AllPairs}
use Rattle.relation_order.specs.Sets.{Relation, has, below}
use Rattle.relation_order.specs.Reached.{reached}

-- Whether an item is marked. Past the last word none is.
abbrev pub has_mark : List ℕ → ℕ → Bool
has_mark words y = nat_eq (bit_at (slice_index words (y / 64)) (y % 64)) 1

-- The marked ones of an order.
abbrev pub marked_in : List ℕ → Vec ℕ → List ℕ
marked_in order row = filter (has_mark row.items) order

-- A row for each item has no more words than it takes. It has marks only for items of the order,
-- which has each once.
pub record Fitting (rows : List (Vec ℕ)) (order : List ℕ) : Type 0 where
  pub order_long : length order ≤ length rows
  pub order_once : AllPairs (λ x y. x ≢ y) order
  pub rows_long : All (λ (row : Vec ℕ). length row.items ≤ div_ceil (length rows) 64) rows
  pub in_order : All (λ (row : Vec ℕ). (y : ℕ) → has_mark row.items y ≡ true → has order y
      ≡ true) rows

-- The row of an item, which is empty if it has none.
abbrev pub row_at : List (Vec ℕ) → ℕ → List ℕ
row_at rows x = slice_index_or (map (λ (row : Vec ℕ). row.items) rows) x []

-- Exactly the items reached from an item are marked.
abbrev pub AreReached : Relation → ℕ → List ℕ → ℕ → Type 0
AreReached r count words x = (y : ℕ) → has_mark words y ≡ has (reached r (below count) x) y
