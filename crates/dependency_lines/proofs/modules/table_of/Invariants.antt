use Rattle.std.proofs.Common.{◌≡◌, take}
use Rattle.dependency_lines.specs.Tables.{IsNamed, at_places}
use Rattle.dependency_lines.proofs.modules.table_of.Given as goal

abbrev pub invariant-loop-place : goal.invariant-loop-place
invariant-loop-place l =
    record {
      named : IsNamed l.names (at_places l.lines (take l.place-index l.places));
      count : l.names.count ≡ l.place-index;
    }
