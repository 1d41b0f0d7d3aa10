use Rattle.std.proofs.Common.{◌≡◌, ◌≤◌, ℕ, List, length}
use Rattle.std.specs.HashMap.{spare}
use Rattle.std.specs.Option.{option_or}
use Rattle.export_table.specs.Standing.{standing_in, standing_of}
use Rattle.export_table.proofs.standing.ExportTable.enter_all.Given as goal

abbrev pub invariant-loop-next : goal.invariant-loop-next
invariant-loop-next l = record {
  room : length l.rest.items ≤ spare l.self.standings;
  at : (x : List ℕ)
      → option_or (standing_of l.self x) (standing_in x l.rest.items)
      ≡ option_or (standing_of l.initial.self x) (standing_in x l.initial.rest.items);
}

abbrev pub decreases-loop-next : goal.decreases-loop-next
decreases-loop-next l = length l.rest.items
