-- A table of names has each module's place.
use Rattle.std.proofs.Common.{◌≡◌, ℕ, ◌+◌, Bool, cond, List, [], ◌∷◌, map, Some, None, refl, ap}
use Rattle.std.proofs.Common.{◌∙◌}
use Rattle.std.specs.Prelude.{nat_lt, not}
use Rattle.std.proofs.lemmas.List.{length-map}
use Rattle.std.specs.List.{position, position_or_len}
use Rattle.index_format.specs.Listing.{KeyValue}
use Rattle.name_table.specs.NameTable.{Table, states, place_of as place_in}
use Rattle.dependency_lines.specs.Modules.{place_of}
use Rattle.dependency_lines.specs.Tables.{IsNamed}

module _ {X Y : Type 0} (p : Y → Bool) (f : X → Y) where
  first-map : (xs : List X) → position_or_len p (map f xs) ≡ position_or_len (λ x. p (f x)) xs
  first-map [] = refl
  first-map (x ∷ xs) = ap (λ n. cond (not (p (f x))) (1 + n) 0) (first-map xs)

  pub position-map : (xs : List X) → position p (map f xs) ≡ position (λ x. p (f x)) xs
  position-map xs =
      let e = first-map xs in
      let l = length-map xs f in
      λ i. cond (nat_lt (e i) (l i)) (Some (e i)) None

pub place-named : (table : Table) (ms : List KeyValue) (name : List ℕ) → IsNamed table ms
    → place_in table name ≡ place_of ms name
place-named table ms name is =
    is.places name ∙ position-map (states name) (λ (m : KeyValue). Some m.0) ms
