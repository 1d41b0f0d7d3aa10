use Rattle.std.proofs.Common.{◌≡◌, ◌<◌, ℕ, false, length, map, Vec, Global, Some}
use Rattle.std.specs.Prelude.{nat_eq, slice_get}
use Rattle.std.specs.List.{list_any}
use Rattle.std.specs.Option.{option_map_or}
use Rattle.model_loader.specs.declared.entry.Entry.{Entry}
use Rattle.model_loader.specs.Uses.{is_bound_at}
use Rattle.model_loader.proofs.uses.all_bound_places.Given as goal

abbrev pub invariant-loop-k : goal.invariant-loop-k
invariant-loop-k l = record {
  counted : length l.all.items ≡ l.k;
  at : (i j : ℕ) (e : Entry) → i < l.k → slice_get l.entries i ≡ Some e
      → option_map_or (list_any (nat_eq j))
      (slice_get (map (λ (u : Vec ℕ Global). u.items) l.all.items) i) false
      ≡ list_any (is_bound_at l.table l.places e.free i j) e.needs;
}
