use Rattle.std.proofs.Common.{◌≡◌, length}
use Rattle.dependency_lines.specs.GoodPaths.{AreKept, are_good_needs, is_good}
use Rattle.dependency_lines.proofs.line.are_good.Given as goal

abbrev pub invariant-loop-rest : goal.invariant-loop-rest
invariant-loop-rest g l =
    record {
      same : are_good_needs (g.K.KnownNames.has l.known) l.rest
          ≡ are_good_needs (g.K.KnownNames.has l.known) l.fn.needs;
      kept : AreKept (is_good (g.K.KnownNames.has l.known)) l.paths.slots.items;
    }

abbrev pub decreases-loop-rest : goal.decreases-loop-rest
decreases-loop-rest g l = length l.rest
