-- The first places of byte lists in a list, as the code keeps them.
-- It belongs to the code: no public meaning rests on it.
use Rattle.std.specs.Prelude.{◌≡◌, ℕ, List, length}
use Rattle.std.specs.Ordering.{nat_cmp}
use Rattle.std.specs.Borrow.{Bor}
use Rattle.std.specs.List.{position}
use Rattle.std.specs.Str.{bytes_eq}
use Rattle.std.specs.Cmp.Lexicographic.{slice_cmp}
use Rattle.std.specs.BTreeMap.{get}
use Rattle.mod_tree.specs.declared.places.Places.{Places}

-- The first place of each of the items is kept, and the number of items.
pub record IsPlacesOf (items : List (List ℕ)) (places : Places) : Type 0 where
  pub count_is : places.count ≡ length items
  pub at : (q : Bor (List ℕ))
      → get (λ x y. slice_cmp nat_cmp x.now y.now) places.first q ≡ position (bytes_eq q.now) items
