-- Lists in an order of their elements.
use Rattle.std.specs.Prelude.{List, map}
use Rattle.std.specs.declared.cmp.Ordering.{Ordering}
use Rattle.std.specs.FinMap as finmap

-- The elements of a list in an order, each once: the keys of a map in that order that has them all.
unfoldable pub in_order : {X : Type 0} → (X → X → Ordering) → List X → List X
in_order {X} cmp xs = finmap.keys (finmap.from_entries {R = cmp} (map (λ (x : X). (x, tt {0})) xs))
