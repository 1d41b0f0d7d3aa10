use Rattle.std.proofs.Common.{◌≡◌, ℕ, take}
use Rattle.std.specs.Prelude.{nat_eq}
use Rattle.std.specs.List.{list_any}
use Rattle.model_loader.specs.Uses.{is_bound_at}
use Rattle.model_loader.proofs.uses.bound_places.Given as goal

abbrev pub invariant-loop-need : goal.invariant-loop-need
invariant-loop-need l =
    (j : ℕ)
    → list_any (nat_eq j) l.bound.items
    ≡ list_any (is_bound_at l.table l.places l.entry.free l.k j)
    (take l.need-index l.entry.needs)
