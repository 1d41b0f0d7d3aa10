use Rattle.std.proofs.Common.{◌≡◌, ◌==◌, ℕ, List, [], true, take, filter, not}
use Rattle.std.specs.List.{flat_map}
use Rattle.std.specs.Option.{unwrap_or}
use Rattle.name_table.specs.FirstSeen.{is_among}
use Rattle.relation_order.specs.Search.{with_items}
use Rattle.plan_sources.specs.Kept.{texts}
use Rattle.plan_sources.specs.Softdeps.{kept_places}
use Rattle.plan_sources.proofs.soft_table.find_all.Given as goal

abbrev pub invariant-loop-name : goal.invariant-loop-name
invariant-loop-name l =
    record {
      looked_up : (other : List ℕ) → is_among l.looked_up other ≡ true
          → is_among (texts (take l.name-index l.names)) other ≡ true;
      found : l.found.keys
          ≡ with_items []
          (filter (λ y. not (y == l.place))
          (flat_map (λ name. unwrap_or (kept_places l.lists.entries name) [])
          (texts (take l.name-index l.names))));
    }
